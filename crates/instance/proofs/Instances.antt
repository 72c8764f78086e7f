-- Instances: one after another, and what it takes to be the most general.
use Prim.Native.Nat.{ℕ}
use mathlib.Core.Path.{sym, ◌∙◌, ap}
use mathlib.Core.Logic.{◌↔◌}
use mathlib.Core.List.{List}
use Rattle.term.specs.Unify.{inst}
use Rattle.term.proofs.Inst.{inst-id, Subst-id, then, inst-then, Subst-then}
use Rattle.term.specs.Bind.{id_s}
use Rattle.instance.specs.Instance.{Instance, Common, MostGeneral}

pub instance-self : (xs : List ℕ) → Instance xs xs
instance-self xs = record { by = id_s; good = Subst-id; same = inst-id xs }

pub instance-then : {xs ys zs : List ℕ} → Instance xs ys → Instance ys zs → Instance xs zs
instance-then {xs} a b = record {
  by = then a.by b.by;
  good = Subst-then a.good b.good;
  same = sym (inst-then a.by b.by xs) ∙ ap (inst b.by) a.same ∙ b.same;
}

-- the common instances are its instances
pub most-general : {xs ys zs : List ℕ} → ((us : List ℕ) → Common xs ys us ↔ Instance zs us) → MostGeneral xs ys zs
most-general {zs = zs} h = record { common = (h zs).1 (instance-self zs); most = λ us. (h us).0 }

-- a variant of it is another
pub general-variant : {xs ys zs us : List ℕ} → Instance zs us → Instance us zs → MostGeneral xs ys zs → MostGeneral xs ys us
general-variant a b m = record {
  common = record { first = instance-then m.common.first a; second = instance-then m.common.second a };
  most = λ ws c. instance-then b (m.most ws c);
}
