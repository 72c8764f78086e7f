-- What is put of rewritten cells, one cell after another.
use Prim.Native.Nat.{ℕ, ◌+◌, ◌^◌, ◌≤◌, ◌<◌}
use mathlib.Core.Path.{◌≡◌, sym, ◌∙◌, ap, subst}
use mathlib.Core.Bool.{cond}
use mathlib.Core.List.{List, [], ◌∷◌, ◌++◌, map-append}
use native.Mathlib.Numerals.{add-one}
use lib.ListN.{length, get_or, take, drop, take-append-drop}
use lib.Seq.{take-suc}
use Rattle.cell.specs.Cell.{is_var}
use Rattle.term.specs.Unify.{renamed}
use Rattle.term.specs.Bind.{bind, id_s}
use Rattle.term.proofs.Inst.{inst-++, inst-var}
use Rattle.octets.specs.Octets.{Put}
use Rattle.octets.proofs.PutLaws.{put-put, put-late}
use Rattle.instance.specs.Rewrite.{put}

-- a text that is another and one more
pub put-more : {a b c xs ys text : List ℕ} {to on r : ℕ} → text ≡ xs ++ ys → Put a b to xs on → Put b c on ys r → Put a c to text r
put-more {a} {c = c} {to = to} {r = r} e p q = subst (λ (l : List ℕ). Put a c to l r) (sym e) (put-put p q)

-- a variable replaced: where the room is full after the first i cells, nothing more is put
pub put-over : {old new : List ℕ} {to on : ℕ} (v : ℕ) (t cells : List ℕ) (i : ℕ) → length new ≤ on
    → Put old new to (put v t (take i cells)) on → Put old new to (put v t cells) on
put-over {new = new} {on = on} v t cells i h p =
    let e = ap (put v t) (sym (take-append-drop i cells)) ∙ inst-++ (bind v t id_s) (take i cells) (drop i cells) in
    put-more e p (put-late new on (put v t (drop i cells)) h)

module _ (cells : List ℕ) (i : ℕ) (h : i < length cells) where
  next-cell : take (i + 1) cells ≡ take i cells ++ (get_or cells i 0 ∷ [])
  next-cell = ap (λ (n : ℕ). take n cells) (add-one i) ∙ take-suc cells i 0 h

  -- a variable replaced
  module _ (v : ℕ) (t : List ℕ) where
    pub put_next : put v t (take (i + 1) cells) ≡ put v t (take i cells) ++ bind v t id_s (get_or cells i 0)
    put_next =
        ap (put v t) next-cell ∙ inst-++ (bind v t id_s) (take i cells) (get_or cells i 0 ∷ [])
        ∙ ap (λ (l : List ℕ). put v t (take i cells) ++ l) (inst-var (bind v t id_s) (get_or cells i 0))

  -- variables moved apart
  pub renamed-next : renamed (take (i + 1) cells) ≡ renamed (take i cells) ++ (cond (is_var (get_or cells i 0)) (2 ^ 16 + get_or cells i 0) (get_or cells i 0) ∷ [])
  unfolding renamed
  renamed-next = rw (next-cell, map-append)
