-- Two lists that are instances of each other are equal as cells, once the variables of both are numbered by first appearance. So there is one reply.
use Prim.Native.Nat.{ℕ, ◌+◌, ◌≤◌}
use mathlib.Core.Path.{◌≡◌, refl, sym, ◌∙◌, ap}
use mathlib.Core.Logic.{⊎_elim}
use mathlib.Core.Bool.{Bool, true, false, cond, true≢false, ◌&&◌}
use mathlib.Core.List.Memᴰ
use mathlib.Core.List.{List, [], ◌∷◌, map, Memᴰ, head-eq_of_cons-eq}
use mathlib.Core.List.{tail-eq_of_cons-eq}
use native.Mathlib.Omega.{arith}
use lib.Dec.{eqb}
use lib.ListN.{length, get_or, length-append, length-map}
use borrow.Author.Tests.{eqb-true, eqb-false, ne_eqb}
use Rattle.cell.specs.Cell.{is_var}
use Rattle.term.specs.Unify.{inst, Subst}
use Rattle.term.proofs.Tests.{bool_cases, eqb_same}
use Rattle.term.proofs.Occurs.{cell-long, inst-long}
use Rattle.table.specs.Table.{count, appear, up_from}
use Rattle.table.proofs.HeadLaws.{appear-has}
use Rattle.instance.specs.Instance.{Instance}
use Rattle.instance.specs.Reply.{Numbered, Reply, Replies, none, hit, miss}

-- where a list gets no longer, every cell goes to one
one_each : {σ : ℕ → List ℕ} → Subst σ → (xs : List ℕ) → length (inst σ xs) ≤ length xs → (c : ℕ) → Memᴰ c xs → length (σ c) ≡ 1
unfolding inst
one_each s [] h c m = absurd (Memᴰ.not-nil m)
one_each {σ} s (d ∷ xs) h c m =
    let l = cell-long s d in
    let i = inst-long s xs in
    let e = length-append (σ d) (inst σ xs) in
    ⊎_elim (λ p. rw p (omega arith)) (λ q. one_each s xs (omega arith) c q) (Memᴰ.cases_cons m)

single : (l : List ℕ) → length l ≡ 1 → l ≡ get_or l 0 0 ∷ []
single [] h = absurd (omega arith)
single (x ∷ []) h = refl
single (x ∷ y ∷ l) h = absurd (omega arith)

pub inst-map : (σ : ℕ → List ℕ) (f : ℕ → ℕ) (xs : List ℕ) → ((c : ℕ) → Memᴰ c xs → σ c ≡ f c ∷ []) → inst σ xs ≡ map f xs
unfolding inst
inst-map σ f [] h = refl
inst-map σ f (c ∷ xs) h = rw (h c (Memᴰ.head refl)) (ap (λ (l : List ℕ). f c ∷ l) (inst-map σ f xs (λ d m. h d (Memᴰ.tail m))))

map-fixed : (f : ℕ → ℕ) (xs : List ℕ) → map f xs ≡ xs → (c : ℕ) → Memᴰ c xs → f c ≡ c
map-fixed f [] e c m = absurd (Memᴰ.not-nil m)
map-fixed f (d ∷ xs) e c m = ⊎_elim (λ p. rw p (head-eq_of_cons-eq e)) (λ q. map-fixed f xs (tail-eq_of_cons-eq e) c q) (Memᴰ.cases_cons m)

map_back : (f g : ℕ → ℕ) (xs : List ℕ) → map g (map f xs) ≡ xs → (c : ℕ) → Memᴰ c xs → g (f c) ≡ c
map_back f g [] e c m = absurd (Memᴰ.not-nil m)
map_back f g (d ∷ xs) e c m = ⊎_elim (λ p. rw p (head-eq_of_cons-eq e)) (λ q. map_back f g xs (tail-eq_of_cons-eq e) c q) (Memᴰ.cases_cons m)

map_same : (f : ℕ → ℕ) (xs : List ℕ) → ((c : ℕ) → Memᴰ c xs → f c ≡ c) → map f xs ≡ xs
map_same f [] h = refl
map_same f (c ∷ xs) h = rw (h c (Memᴰ.head refl)) (ap (λ (l : List ℕ). c ∷ l) (map_same f xs (λ d m. h d (Memᴰ.tail m))))

by_cond : (f : ℕ → ℕ) (b : Bool) {xs ys : List ℕ} (us ws : List ℕ) → xs ≡ map f us → ys ≡ map f ws → cond b xs ys ≡ map f (cond b us ws)
by_cond f true us ws p q = p
by_cond f false us ws p q = q

module _ {xs ys : List ℕ} (a : Instance xs ys) (b : Instance ys xs) where
  there : ℕ → ℕ
  there c = get_or (a.by c) 0 0

  back : ℕ → ℕ
  back c = get_or (b.by c) 0 0

  pub variants-long : length xs ≡ length ys
  variants-long = omega (arith, inst-long a.good xs, inst-long b.good ys, ap length a.same, ap length b.same)

  goes : (c : ℕ) → Memᴰ c xs → a.by c ≡ there c ∷ []
  unfolding there
  goes c m = single (a.by c) (one_each a.good xs (omega (arith, ap length a.same, variants-long)) c m)

  comes : (c : ℕ) → Memᴰ c ys → b.by c ≡ back c ∷ []
  unfolding back
  comes c m = single (b.by c) (one_each b.good ys (omega (arith, ap length b.same, variants-long)) c m)

  are : map there xs ≡ ys
  are = sym (inst-map a.by there xs goes) ∙ a.same

  undone : (c : ℕ) → Memᴰ c xs → back (there c) ≡ c
  undone = map_back there back xs (ap (map back) are ∙ sym (inst-map b.by back ys comes) ∙ b.same)

  symbol-stays : (c : ℕ) → is_var c ≡ false → there c ≡ c
  unfolding there
  symbol-stays c v = rw (a.good.symbols c v)

  symbol-back : (c : ℕ) → is_var c ≡ false → back c ≡ c
  unfolding back
  symbol-back c v = rw (b.good.symbols c v)

  keeps-kind : (c : ℕ) → Memᴰ c xs → is_var (there c) ≡ is_var c
  keeps-kind c m = ⊎_elim
      (λ v. ⊎_elim
      (λ w. w ∙ sym v)
      (λ w. let e : there c ≡ c = sym (symbol-back (there c) w) ∙ undone c m in absurd (true≢false (sym v ∙ ap is_var (sym e) ∙ w)))
      (bool_cases (is_var (there c))))
      (λ v. ap is_var (symbol-stays c v))
      (bool_cases (is_var c))

  keeps-apart : (c d : ℕ) → Memᴰ c xs → Memᴰ d xs → eqb (there c) (there d) ≡ eqb c d
  keeps-apart c d m n = ⊎_elim
      (λ e. let p = eqb-true c d e in rw p (eqb_same (there d) ∙ sym (eqb_same d)))
      (λ e. ne_eqb (there c) (there d) (λ p. eqb-false c d e (sym (undone c m) ∙ ap back p ∙ undone d n)) ∙ sym e)
      (bool_cases (eqb c d))

  keeps-count : (c : ℕ) → Memᴰ c xs → (ms : List ℕ) → ((d : ℕ) → Memᴰ d ms → Memᴰ d xs) → count (there c) (map there ms) ≡ count c ms
  unfolding count
  keeps-count c m [] h = refl
  keeps-count c m (d ∷ ms) h =
      rw (keeps-apart c d m (h d (Memᴰ.head refl)))
      (ap (λ (n : ℕ). cond (eqb c d) 1 0 + n) (keeps-count c m ms (λ e n. h e (Memᴰ.tail n))))

  keeps-order : (ms zs : List ℕ) → ((d : ℕ) → Memᴰ d ms → Memᴰ d xs) → ((d : ℕ) → Memᴰ d zs → Memᴰ d xs)
      → appear (map there ms) (map there zs) ≡ map there (appear ms zs)
  unfolding appear
  keeps-order ms [] h k = refl
  keeps-order ms (c ∷ zs) h k =
      let m = k c (Memᴰ.head refl) in
      let h' : (d : ℕ) → Memᴰ d (c ∷ ms) → Memᴰ d xs = λ d n. ⊎_elim (λ p. k d (Memᴰ.head p)) (h d) (Memᴰ.cases_cons n) in
      let k' : (d : ℕ) → Memᴰ d zs → Memᴰ d xs = λ d n. k d (Memᴰ.tail n) in
      rw (keeps-kind c m, keeps-count c m ms h)
      (by_cond there (is_var c && eqb (count c ms) 0) (c ∷ appear (c ∷ ms) zs) (appear ms zs)
      (ap (λ (l : List ℕ). there c ∷ l) (keeps-order (c ∷ ms) zs h' k')) (keeps-order ms zs h k'))

  variants-one : Numbered xs → Numbered ys → xs ≡ ys
  unfolding count
  variants-one nx ny =
      let n = length (appear [] xs) in
      let e₁ : appear [] ys ≡ map there (appear [] xs) = ap (appear []) (sym are) ∙ keeps-order [] xs (λ d m. absurd (Memᴰ.not-nil m)) (λ d m. m) in
      let e₂ : length (appear [] ys) ≡ n = ap length e₁ ∙ length-map (appear [] xs) there in
      let e₃ : map there (up_from 0 n) ≡ up_from 0 n = ap (map there) (sym nx) ∙ sym e₁ ∙ ny ∙ ap (up_from 0) e₂ in
      let fixed : (c : ℕ) → Memᴰ c xs → there c ≡ c
      = λ c m. ⊎_elim (λ v. map-fixed there (up_from 0 n) e₃ c (rw nx at (appear-has c [] xs m v refl))) (symbol-stays c) (bool_cases (is_var c)) in
      sym (map_same there xs fixed) ∙ are

-- the reply of a row is one list of cells, and the replies of rows are one list
pub reply-one : {row goal xs ys : List ℕ} → Reply row goal xs → Reply row goal ys → xs ≡ ys
reply-one {xs = xs} {ys = ys} r s =
    variants-one (r.instance.most ys s.instance.common) (s.instance.most xs r.instance.common) r.order s.order

pub replies-one : {goal : List ℕ} {rows xs ys : List (List ℕ)} → Replies goal rows xs → Replies goal rows ys → xs ≡ ys
replies-one none none = refl
replies-one (hit {cells = c} {all = xs} p r a) (hit {cells = d} {all = ys} q s b) =
    ap (λ (l : List (List ℕ)). c ∷ l) (replies-one a b) ∙ ap (λ (x : List ℕ). x ∷ ys) (reply-one r s)
replies-one (hit p r a) (miss q b) = absurd (q p)
replies-one (miss p a) (hit q s b) = absurd (p q)
replies-one (miss p a) (miss q b) = replies-one a b
