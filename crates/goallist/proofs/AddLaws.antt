-- A goal more, by whether there is room for it.
use mathlib.Core.Path.{◌≡◌, sym, ◌∙◌}
use mathlib.Core.Logic.{by_cases}
use mathlib.Core.Bool.{true, false}
use mathlib.Core.List.{List, [], ◌∷◌}
use Prim.Native.Nat.{ℕ, ◌+◌, min}
use native.Mathlib.Omega.{arith}
use native.Mathlib.Decide.{dec_le}
use lib.ListN.{length, take}
use lib.Seq.{sets, take_all}
use borrow.Author.Tests.{leb-true}
use Rattle.octets.specs.Octets.{Put}
use Rattle.octets.proofs.PutLaws.{put_whole}
use Rattle.goallist.specs.Gathering.{words_fit, cells_fit, Adding}
use Rattle.goallist.specs.declared.Held.{Held}
use Rattle.goallist.specs.declared.Full.TheVariants as full
use Rattle.std.specs.Prelude.{Ok, Err}

module _ (goal : List ℕ) (held : Held) (cells list : List ℕ) where
  pub no_words : words_fit held list ≡ false → Adding goal held cells list cells list (Err full.Goals)
  no_words w = record { told = rw w; puts-cells = rw w; puts-words = rw w }

  pub no_cells : words_fit held list ≡ true → cells_fit goal held cells ≡ false → Adding goal held cells list cells list (Err full.Cells)
  no_cells w c = record { told = rw (w, c); puts-cells = rw (w, c); puts-words = rw (w, c) }

  pub kept : {cells' : List ℕ} {end : ℕ} → words_fit held list ≡ true → cells_fit goal held cells ≡ true → Put cells cells' held.cells goal end
      → Adding goal held cells list cells' (sets list held.words (held.cells ∷ length goal ∷ []))
      (Ok (record { cells = end; words = held.words + 2 }))
  kept w c p =
      let e = put_whole p (leb-true _ _ c) in
      record { told = rw (w, c, e.0); puts-cells = rw (w, c) e.1; puts-words = rw (w, c) }

-- no more is taken than there is
pub cut_off : (n most : ℕ) (list : List ℕ) → n ≡ min most (length list) → take n list ≡ take most list
cut_off n most list e = by_cases (dec_le most (length list))
    (λ h. let same : n ≡ most = omega arith in rw same)
    (λ h. take_all n list (omega arith) ∙ sym (take_all most list (omega arith)))
