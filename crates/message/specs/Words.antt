-- A text of ASCII as its bytes.
use Rattle.std.specs.Prelude.{ℕ, List, [], ◌∷◌}
use Prim.Native.Char.{code}
use Prim.Native.String.{String, [] as nothing, ◌∷◌ as ◌then◌}

unfoldable pub ascii : String → List ℕ
ascii nothing = []
ascii (c then s) = code c ∷ ascii s
