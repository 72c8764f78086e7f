-- The open names, one step further: each stands among the symbols so far where its owner says, with the arguments that are complete.
use Prim.Native.Nat.{ℕ, suc, ◌<◌}
use mathlib.Core.Path.{◌∙◌}
use mathlib.Core.List.{List, [], ◌∷◌, ◌++◌}
use native.Mathlib.Omega.{arith}
use lib.ListN.{length, set, length-set, length-append, get_or-append}
use lib.Seq.{get_or-append_seam, get_or-set_same, get_or-set_other}
use Rattle.grammar.specs.Grammar.{Symbol, name, number}
use Rattle.grammar.specs.Reader.{Frame, frame, one_more, one_more_in, Under, Held, none, more}

pub held-put : {out : List Symbol} {fs : List Frame} (x : Symbol) → Held out fs → Held (out ++ (x ∷ [])) fs
held-put x none = none
held-put {out} x (more {f = f} l e u h) =
    let k : f.owner < length (out ++ (x ∷ [])) = omega (arith, length-append out (x ∷ [])) in
    more k (get_or-append out (x ∷ []) (number 0) f.owner l ∙ e) u (held-put x h)

all_under : {out : List Symbol} {fs : List Frame} → Held out fs → Under (length out) fs
all_under none = tt
all_under {out} (more {f = f} {fs = fs} l e u h) = (l, all_under h)

pub held-push : {out : List Symbol} {fs : List Frame} (s e : ℕ) → Held out fs → Held (out ++ (name s e 0 ∷ [])) (frame (length out) s e 0 ∷ fs)
held-push {out} s e h =
    let k : length out < length (out ++ (name s e 0 ∷ [])) = omega (arith, length-append out (name s e 0 ∷ [])) in
    more k (get_or-append_seam out (name s e 0) [] (number 0)) (all_under h) (held-put (name s e 0) h)

-- a store at the innermost owner leaves the others
held_below : {out : List Symbol} {fs : List Frame} (n : ℕ) (x : Symbol) → Under n fs → Held out fs → Held (set out n x) fs
held_below n x u none = none
held_below {out} n x u (more {f = f} l e v h) =
    let k : f.owner < length (set out n x) = rw length-set l in
    more k (get_or-set_other out n f.owner x (number 0) (λ q. omega (arith, u.0)) ∙ e) v (held_below n x u.1 h)

pub held-comma : {out : List Symbol} {f : Frame} {fs : List Frame} → Held out (f ∷ fs)
    → Held (one_more_in f out) (one_more f ∷ fs)
held-comma {out} {f} (more l e u h) =
    let k : f.owner < length (one_more_in f out) = rw length-set l in
    more k (get_or-set_same out f.owner (name f.start f.end (suc f.done)) (number 0) l) u
    (held_below f.owner (name f.start f.end (suc f.done)) u h)

pub held-close : {out : List Symbol} {f : Frame} {fs : List Frame} → Held out (f ∷ fs) → Held (one_more_in f out) fs
held-close {out} {f} (more l e u h) = held_below f.owner (name f.start f.end (suc f.done)) u h
