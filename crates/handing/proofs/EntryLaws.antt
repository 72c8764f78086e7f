-- What the entry answers, case by case.
use Prim.Native.Nat.{ℕ, ◌≤◌, ◌<◌}
use mathlib.Core.Path.{◌≡◌, refl, sym, ◌∙◌, ap}
use mathlib.Core.Bool.{Bool, true, false, true≢false}
use mathlib.Core.List.{List, [], ◌∷◌}
use native.Mathlib.Omega.{arith}
use lib.ListN.{length, take, drop}
use Rattle.std.specs.Prelude.{Result, Ok, Err}
use Rattle.refusal.specs.Refusal.{refused, told, answered, turned}
use Rattle.refusal.specs.declared.Refusal.{Refusal}
use Rattle.refusal.specs.declared.Reason.TheVariants as reason
use Rattle.refusal.specs.declared.Input.TheVariants as input
use Rattle.refusal.specs.Read.{read, and_then}
use Rattle.table.specs.Table.{Table, table_of, IsTable}
use Rattle.table.proofs.ReadLaws.{first}
use Rattle.table.proofs.Accepted.{is-table}
use Rattle.plan.specs.Plans.{Plan, write}
use Rattle.plan.specs.Check.{plan_for}
use Rattle.octets.specs.Octets.{Put}
use Rattle.octets.proofs.PutLaws.{put-length, put-found, put_front}
use Rattle.clauses.specs.Clauses.{Clause}
use Rattle.clauses.specs.Program.{program}
use Rattle.clauses.specs.Handed.{hand_of, Listed, text_for, Handed, refusal, no_names, no_room, handed}
use Rattle.clauses.specs.code.Size.{program_bytes}
use Rattle.clauses.specs.declared.ProgramSize.{ProgramSize}
use Rattle.naming.specs.Says.{Says}
use Rattle.naming.proofs.ListedLaws.{listed-rows}
use Rattle.unfolding.specs.Flat.{flat}
use Rattle.unfolding.specs.Unfolds as unfolds
use Rattle.unfolding.specs.Unfolds.{Unfolds}
use Rattle.unfolding.proofs.ShortLaws.{flat-short}
use Rattle.handing.specs.code.Lines.{blanks, ProgramWritten}
use Rattle.handing.specs.code.Sizes.{Gives, short, enough}
use Rattle.handing.proofs.PlainLaws.{program-plain}
use Rattle.handing.proofs.BytesLaws.{text-long}

-- the table that is read
table-read : (t p : List ℕ) {T : Table} → hand_of t p ≡ read T → table_of t ≡ read T
unfolding hand_of
table-read t p {T} e =
    let f = first (table_of t) (λ (S : Table). and_then (plan_for S p) (λ (n : ℕ). read S)) e in
    let g = first (plan_for f.0 p) (λ (n : ℕ). read f.0) f.2 in
    f.1 ∙ g.2

-- a program that is made stands at the front of its room
pub record MadeOf (t p program : List ℕ) (n : ℕ) : Type 0 where
  pub T : Table
  pub tree : Plan T.width T.rows
  pub reads : hand_of t p ≡ read T
  pub is : p ≡ write tree
  pub found : take n program ≡ flat (Rattle.clauses.specs.Program.program tree)
  pub inside : n ≤ length program

pub made_of : {t p old new : List ℕ} {r : Result ℕ Refusal} {n : ℕ} → length old ≡ 4608 → Unfolds t p old new r → r ≡ Ok n
    → MadeOf t p new n
made_of h (unfolds.refusal f a b c) e = absurd (let z : ◌≡◌ {A = ℕ} 0 1 = cc in omega arith)
made_of {t} {p} {old} {new} {r} {n} h (unfolds.made T tree m a b c d) e =
    let q : m ≡ n = cc in
    let s = flat-short (is-table t (table-read t p a)) tree in
    let f = put-found d (omega arith) in
    record { T = T; tree = tree; reads = a; is = b; found = rw q at f.1; inside = omega (arith, f.0, put-length d) }

module _ {t p xs : List ℕ} {n : ℕ} (m : MadeOf t p xs n) where
  abbrev cs : List Clause
  cs = program m.tree

  reads-table : table_of t ≡ read m.T
  reads-table = table-read t p m.reads

  is : IsTable t m.T.width m.T.rows
  is = is-table t reads-table

  module _ {text names : List ℕ} where
    pub is-listed : (b : Bool) → Says (Listed text names (drop 2 t ∷ [])) b → b ≡ true → Listed text names m.T.rows
    is-listed true s e = listed-rows text names t true reads-table s
    is-listed false s e = absurd (true≢false (sym e))

    pub not_listed : (b : Bool) → Says (Listed text names (drop 2 t ∷ [])) b → b ≡ false → {room : List ℕ}
        → Handed t p text names room room (Err (record { reason = reason.Names; input = input.Names; place = 0 }))
    not_listed true s e = absurd (true≢false e)
    not_listed false s e = no_names m.T m.reads (listed-rows text names t false reads-table s) refl refl

    module _ (l : Listed text names m.T.rows) where
      pub written : ProgramWritten (take n xs)
      written = record {
        clauses = cs;
        is = m.found;
        plain = program-plain is m.tree l;
        short = omega (arith, ap length m.found, flat-short is m.tree);
      }

      by-room : {room room' : List ℕ} {r : Result ProgramSize Refusal} → Gives (length cs) (text_for text names cs) room room' r
          → Handed t p text names room room' r
      by-room (short h e q) = no_room m.T m.tree m.reads m.is l h e q
      by-room (enough h e q) = handed m.T m.tree m.reads m.is l h e q

      pub is-handed : {room room' : List ℕ} {r : Result ProgramSize Refusal}
          → ((w : ProgramWritten (take n xs)) → length (text_for text names w.clauses) ≡ program_bytes (blanks names) w.clauses
          → Gives (length w.clauses) (text_for text names w.clauses) room room' r)
          → Handed t p text names room room' r
      unfolding written
      is-handed f = by-room (f written (text-long is m.tree l))

pub is-refused : {t p old new text names room : List ℕ} {r : Result ℕ Refusal} {f : Refusal} → Unfolds t p old new r → r ≡ Err f
    → Handed t p text names room room (Err f)
is-refused {f = f} (unfolds.refusal g a b c) e = let q : g ≡ f = cc in refusal (told g) a (ap (λ (x : Refusal). turned (told x)) (sym q)) refl
is-refused (unfolds.made T tree m a b c d) e = absurd (let z : ◌≡◌ {A = ℕ} 0 1 = cc in omega arith)

-- PUT: the measured text and its room
pub no-space : {n need : ℕ} {text room : List ℕ} → need ≡ length text → length room < need
    → Gives n text room room (Err (record { reason = reason.Room; input = input.Lent; place = need }))
no-space e h = short (omega arith) (ap (λ (k : ℕ). turned (refused reason.Room input.Lent k)) e) refl

pub is-put : {n r : ℕ} {size : ProgramSize} {text room room' : List ℕ} → size.clauses ≡ n → size.bytes ≡ length text → size.bytes ≤ length room
    → Put room room' 0 text r
    → Gives n text room room' (Ok size)
is-put {n} {size = size} {text = text} e f h p =
    let q : answered size.clauses size.bytes ≡ answered n (length text) = cc in
    enough (omega arith) q (put_front p (omega arith)).1
