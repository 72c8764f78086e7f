-- Two results that the promises of `columns_of` and `build_liked` allow are equal.
use Rattle.std.specs.Prelude.{Result}
use Rattle.builder.specs.declared.BuiltPlan.{BuiltPlan}
use Rattle.refusal.specs.declared.Refusal.{Refusal}
use Prim.Native.Nat.{ℕ, ◌-◌, ◌<◌}
use mathlib.Core.Path.{◌≡◌, sym, ◌∙◌, ap, ap₂, subst}
use mathlib.Core.List.{List, ◌++◌}
use native.Mathlib.Omega.{arith}
use lib.ListN.{length, replicate, length-take, take-append-drop}
use Rattle.refusal.specs.Refusal.{turned}
use Rattle.table.specs.Table.{Table}
use Rattle.table.proofs.ReadLaws.{apart, read_one, refuse-one}
use Rattle.least.specs.declared.By.{By}
use Rattle.builder.proofs.Fixed.{build_told-one, build-fixed}
use Rattle.liked.specs.Liked.{ColumnsListed, LikesBest, LikedInto, table-refused, found}
use Rattle.liked.specs.declared.Columns.{Columns}
use Rattle.liked.proofs.SearchLaws.{tries-for-one}

pub columns-fixed : {mask : ℕ} {r s : Columns} → ColumnsListed mask r → ColumnsListed mask s → (r.list ≡ s.list) × (r.count ≡ s.count)
columns-fixed {r = r} {s} p q =
    let e : r.count ≡ s.count = omega (
      arith,
      p.few,
      p.size,
      q.few,
      q.size,
      length-take r.count r.list,
      length-take s.count s.list,
      ap length (p.are ∙ sym q.are),
    ) in (
      sym (take-append-drop r.count r.list) ∙ ap₂ ◌++◌ (p.are ∙ sym q.are) (p.others ∙ ap (λ (n : ℕ). replicate (8 - n) 0) e ∙ sym q.others)
          ∙ take-append-drop s.count s.list,
      e,
    )

module _ {by : By} {cells goals list : List ℕ} {width : ℕ} where
  -- of two best sets neither is the smaller
  not-below : {mask total plain mask' total' plain' : ℕ} → LikesBest by cells goals list width mask total plain
      → LikesBest by cells goals list width mask' total' plain' → ¬ (mask < mask')
  not-below {mask} {total} {mask' = mask'} {total'} x y h =
      let a = x.least mask' total' y.set y.tries in
      let b = y.first mask total h x.tries in
      absurd (omega (arith, a, b))

  pub one-best : {mask total plain mask' total' plain' : ℕ} → LikesBest by cells goals list width mask total plain
      → LikesBest by cells goals list width mask' total' plain' → (mask ≡ mask') × (total ≡ total') × (plain ≡ plain')
  one-best {mask} {total} {plain} {mask'} x y =
      let e : mask ≡ mask' = omega (arith, not-below x y, not-below y x) in
      (e, tries-for-one (rw e at x.tries) y.tries, tries-for-one x.plainly y.plainly)

pub liked-fixed : {by : By} {cells goals list room room' room'' liked liked' liked'' : List ℕ} {r s : Result BuiltPlan Refusal}
    → LikedInto by cells goals list room room' liked liked' r → LikedInto by cells goals list room room'' liked liked'' s
    → (r ≡ s) × (room' ≡ room'') × (liked' ≡ liked'')
liked-fixed {r = r} {s} (table-refused f a b c d) (table-refused g a' b' c' d') =
    (build_told-one r s (b ∙ ap turned (refuse-one (sym a ∙ a')) ∙ sym b'), c ∙ sym c', d ∙ sym d')
liked-fixed (table-refused f a b c d) (found T m n k a' x b' e) = apart (sym a' ∙ a)
liked-fixed (found T m n k a x b e) (table-refused f a' b' c d) = apart (sym a ∙ a')
liked-fixed {by} {cells} {goals} {list} {liked = liked} {r = r} {s} (found T m n k a x b e) (found T' m' n' k' a' x' b' e') =
    let y : LikesBest by cells goals list T.width m' n' k' =
    subst (λ (X : Table). LikesBest by cells goals list X.width m' n' k') (read_one (sym a' ∙ a)) x' in
    let q = one-best x y in
    let z = build-fixed (rw q.0 at b) b' in
    (z.0, z.1, e ∙ rw (z.0, q.0, q.1, q.2) (sym e'))
