-- The text of a program is read as the program.
use Prim.Native.Nat.{ℕ, suc, ◌+◌, ◌≤◌}
use mathlib.Core.Path.{◌≡◌, refl, sym, ◌∙◌, ap, subst}
use mathlib.Core.Bool.{false}
use mathlib.Core.List.{List, [], ◌∷◌, ◌++◌, append_assoc, append-nil}
use native.Mathlib.Omega.{arith}
use lib.ListN.{length, length-append}
use Rattle.term.specs.Terms.{Terms}
use Rattle.refusal.specs.Read.{read}
use Rattle.table.specs.All.{All}
use Rattle.table.specs.code.Looks.{cells_from}
use Rattle.grammar.specs.Grammar as G
use Rattle.grammar.specs.Grammar.{Symbol, Args}
use Rattle.grammar.specs.Numbering.{Words}
use Rattle.termtext.specs.Saying.{closing, owing, terms_text, answer_text}
use Rattle.termtext.proofs.SayLaws as say
use Rattle.termtext.proofs.SayLaws.{Spells, terms-said, Goods, spells-both}
use Rattle.termtext.proofs.Back.{Apart, spelt-row}
use Rattle.clauses.specs.Clauses.{nothing, calls, Clause, clause_of, handed}
use Rattle.clauses.specs.Text.{predicate_word, atom_text, body_text, line_text, program_text}
use Rattle.clauses.specs.Reading as reading
use Rattle.clauses.specs.Reading.{AtomAt, ClauseAt, ClausesAt, Reads}

spells-long : {t : List ℕ} {words : Words} {ss : List Symbol} {cs : List ℕ} → Spells t words ss cs → length cs ≡ length ss
spells-long say.none = refl
spells-long (say.a-name l m h x) = ap suc (spells-long x)
spells-long (say.a-variable l h x) = ap suc (spells-long x)
spells-long (say.a-number l x) = ap suc (spells-long x)

-- what can be printed and read back: terms of good cells, at most 32, its variables numbered by first appearance
pub record Plain (words : Words) (k : ℕ) (cells : List ℕ) : Type 0 where
  pub terms : Terms (suc k) cells
  pub goods : Goods words cells
  pub short : length cells ≤ 32

abbrev pub Counted : List ℕ → Type 0
Counted cells = (v : ℕ) × (cells_from false cells 0 0 ≡ read v)

pub data Printed (words : Words) : Clause → Type 0 where
  fact-printed : {k w : ℕ} {head : List ℕ} → Plain words w head → Counted head → Printed words (clause_of k (suc w) head nothing)
  rule-printed : {k w j n : ℕ} {head : List ℕ} → Plain words w head → length (handed head) ≡ suc n → Plain words n (handed head)
      → Counted (head ++ handed head)
      → Printed words (clause_of k (suc w) head (calls j))

-- ONE ATOM, after `pre` and before `post`
record AtomSaid (words : Words) (said pre post : List ℕ) (k w : ℕ) (cells : List ℕ) : Type 0 where
  symbols : List Symbol
  reads : AtomAt (length pre) (said ++ post) (length pre + length said) post k w symbols
  spells : Spells (pre ++ (said ++ post)) words symbols cells

atom-said : (words : Words) (pre post : List ℕ) (k w : ℕ) (cells : List ℕ) → Plain words w cells
    → AtomSaid words (atom_text words k (suc w) cells) pre post k (suc w) cells
unfolding answer_text closing owing terms_text
atom-said words pre post k w cells h =
    let A = terms-said words h.terms h.goods in
    let H = predicate_word k in
    let P = length pre + suc (length H) in
    let S = H ++ (40 ∷ A.bytes) in
    let is : atom_text words k (suc w) cells ≡ S
    = ap (λ (t : List ℕ). H ++ (40 ∷ t)) (ap (terms_text words (suc w ∷ [])) (sym (append-nil cells)) ∙ A.flat [] [] ∙ append-nil A.bytes) in
    let x : S ++ post ≡ H ++ (40 ∷ (A.bytes ++ post)) = append_assoc H (40 ∷ A.bytes) post in
    let e : length pre + length S ≡ P + length A.bytes = omega (arith, length-append H (40 ∷ A.bytes)) in
    let z : ◌≡◌ {A = ℕ} (0 + w) w = omega arith in
    let a : Args 0 P (A.bytes ++ post) (P + length A.bytes) post w (A.symbols P)
    = subst (λ (m : ℕ). Args 0 P (A.bytes ++ post) (P + length A.bytes) post m (A.symbols P)) z (A.reads 0 P post G.none) in
    let r : AtomAt (length pre) (S ++ post) (P + length A.bytes) post k (suc w) (A.symbols P) = reading.atom x a in
    let u = pre ++ (H ++ (40 ∷ [])) in
    let m : length u ≡ P = omega (arith, length-append pre (H ++ (40 ∷ [])), length-append H (40 ∷ [])) in
    let i : u ++ (A.bytes ++ post) ≡ pre ++ (S ++ post) = simp append_assoc in
    subst (λ (said : List ℕ). AtomSaid words said pre post k (suc w) cells) (sym is)
    (record {
      symbols = A.symbols P;
      reads = subst (λ (n : ℕ). AtomAt (length pre) (S ++ post) n post k (suc w) (A.symbols P)) (sym e) r;
      spells = subst (λ (n : ℕ). Spells (pre ++ (S ++ post)) words (A.symbols n) cells) m
          (subst (λ (t : List ℕ). Spells t words (A.symbols (length u)) cells) i (A.spells u post));
    })

-- ONE LINE, up to its line feed
record LineSaid (words : Words) (t pre post : List ℕ) (c : Clause) : Type 0 where
  at : ℕ
  reads : ClauseAt t words (length pre) (line_text words c ++ post) at (10 ∷ post) c
  end : suc at ≡ length pre + length (line_text words c)

line-said : (words : Words) → Apart words → {c : Clause} → Printed words c → (t pre post : List ℕ) → t ≡ pre ++ (line_text words c ++ post)
    → LineSaid words t pre post c
line-said words apart (fact-printed {k} {w} {head} h n) t pre post e =
    let S = atom_text words k (suc w) head in
    let tail : List ℕ = 46 ∷ 10 ∷ post in
    let A = atom-said words pre tail k w head h in
    let x : line_text words (clause_of k (suc w) head nothing) ++ post ≡ S ++ tail = append_assoc S (46 ∷ 10 ∷ []) post in
    let s : Spells t words A.symbols head = subst (λ (l : List ℕ). Spells l words A.symbols head) (sym (e ∙ ap (λ (l : List ℕ). pre ++ l) x))
    A.spells in
    let r = spelt-row t words 0 0 n.0 apart s n.1 in
    record {
      at = suc (length pre + length S);
      reads = subst (λ (l : List ℕ). ClauseAt t words (length pre) l (suc (length pre + length S)) (10 ∷ post) (clause_of k (suc w) head nothing)) (sym x)
          (reading.a-fact A.reads G.none r);
      end = omega (arith, length-append S (46 ∷ 10 ∷ []));
    }
line-said words apart (rule-printed {k} {w} {j} {n} {head} h m g c) t pre post e =
    let S = atom_text words k (suc w) head in
    let X = handed head in
    let Q = atom_text words j (length X) X in
    let C = clause_of k (suc w) head (calls j) in
    let tail : List ℕ = 46 ∷ 10 ∷ post in
    let mid : List ℕ = 32 ∷ 58 ∷ 45 ∷ 32 ∷ (Q ++ tail) in
    let pre₂ = pre ++ (S ++ (32 ∷ 58 ∷ 45 ∷ 32 ∷ [])) in
    let A = atom-said words pre mid k w head h in
    let B : AtomSaid words Q pre₂ tail j (length X) X
    = subst (λ (v : ℕ). AtomSaid words (atom_text words j v X) pre₂ tail j v X) (sym m) (atom-said words pre₂ tail j n X g) in
    let x : line_text words C ++ post ≡ S ++ mid = simp append_assoc in
    let l₂ : length pre₂ ≡ suc (suc (suc (suc (length pre + length S))))
    = omega (arith, length-append pre (S ++ (32 ∷ 58 ∷ 45 ∷ 32 ∷ [])), length-append S (32 ∷ 58 ∷ 45 ∷ 32 ∷ [])) in
    let y : pre₂ ++ (Q ++ tail) ≡ pre ++ (S ++ mid) = simp append_assoc in
    let f : t ≡ pre ++ (S ++ mid) = e ∙ ap (λ (l : List ℕ). pre ++ l) x in
    let s : Spells t words A.symbols head = subst (λ (l : List ℕ). Spells l words A.symbols head) (sym f) A.spells in
    let u : Spells t words B.symbols X = subst (λ (l : List ℕ). Spells l words B.symbols X) (y ∙ sym f) B.spells in
    let r = spelt-row t words 0 0 c.0 apart (spells-both s u) c.1 in
    let q = length pre + length S in
    let b : AtomAt (suc (suc (suc (suc q)))) (Q ++ tail) (length pre₂ + length Q) tail j (length X) B.symbols
    = subst (λ (p : ℕ). AtomAt p (Q ++ tail) (length pre₂ + length Q) tail j (length X) B.symbols) l₂ B.reads in
    record {
      at = suc (length pre₂ + length Q);
      reads = subst (λ (l : List ℕ). ClauseAt t words (length pre) l (suc (length pre₂ + length Q)) (10 ∷ post) C) (sym x)
          (reading.a-rule A.reads (G.blank G.space G.none) (G.blank G.space G.none) b G.none (spells-long s) refl r);
      end = omega (arith, l₂, length-append S (body_text words head (calls j) ++ (46 ∷ 10 ∷ [])), length-append Q (46 ∷ 10 ∷ []));
    }

-- ALL LINES
lines-said : (words : Words) → Apart words → (cs : List Clause) → All (Printed words) cs → (t pre : List ℕ)
    → t ≡ pre ++ program_text words cs
    → ClausesAt t words (length pre) (program_text words cs) cs
unfolding program_text
lines-said words apart [] a t pre e = reading.none
lines-said words apart (c ∷ cs) a t pre e =
    let T = program_text words cs in
    let L = line-said words apart a.0 t pre T e in
    let pre₂ = pre ++ line_text words c in
    let l : length pre₂ ≡ suc L.at = length-append pre (line_text words c) ∙ sym L.end in
    let on = lines-said words apart cs a.1 t pre₂ (e ∙ sym (append_assoc pre (line_text words c) T)) in
    reading.next L.reads (G.blank G.feed G.none) (omega arith) (subst (λ (p : ℕ). ClausesAt t words p T cs) l on)

pub program-reads : (words : Words) → Apart words → (cs : List Clause) → All (Printed words) cs → Reads words (program_text words cs) cs
program-reads words apart cs a =
    record { at = 0; rest = program_text words cs; layout = G.none; clauses = lines-said words apart cs a (program_text words cs) [] refl }
