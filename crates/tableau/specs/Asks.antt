-- A formula with a sign, and what it asks of its branch: all case work on connectives is here.
use Rattle.std.specs.Prelude.{Bool, true, false, not, List, [], ◌∷◌}
use Rattle.plfd.specs.declared.nodes.Atom.{Atom}
use Rattle.plfd.specs.declared.nodes.Connective.{Connective}
use Rattle.plfd.specs.declared.nodes.Connective.TheVariants.{And, Or, Implies, Iff}
use Rattle.plfd.specs.Formula.{Formula, constant, atom, negation, join}

-- an entry of a branch: a formula with a sign, the truth that it has to have
infix 70 ◌is◌
pub data Entry : Type 0 where
  ◌is◌ : Formula → Bool → Entry

-- what an entry asks for: nothing; what can't be, so that the branch closes; that its setting's choice is one that
-- the atom covers, or with the sign false one that it does not; that further entries are met; or that the one list
-- of them is met or the other
pub data Asks : Type 0 where
  nothing : Asks
  clash : Asks
  narrow : Atom → Bool → Asks
  append : List Entry → Asks
  split : List Entry → List Entry → Asks

-- true is true, and false is false; the opposite can't be
abbrev pub constant_asks : Bool → Bool → Asks
constant_asks true true = nothing
constant_asks true false = clash
constant_asks false true = clash
constant_asks false false = nothing

-- a connective with its sign, over its left and its right side
abbrev pub join_asks : Connective → Bool → Formula → Formula → Asks
join_asks And true l r = append (l is true ∷ r is true ∷ [])
join_asks And false l r = split (l is false ∷ []) (r is false ∷ [])
join_asks Or true l r = split (l is true ∷ []) (r is true ∷ [])
join_asks Or false l r = append (l is false ∷ r is false ∷ [])
join_asks Implies true l r = split (l is false ∷ []) (r is true ∷ [])
join_asks Implies false l r = append (l is true ∷ r is false ∷ [])
join_asks Iff true l r = split (l is true ∷ r is true ∷ []) (l is false ∷ r is false ∷ [])
join_asks Iff false l r = split (l is true ∷ r is false ∷ []) (l is false ∷ r is true ∷ [])

-- what an entry asks for
abbrev pub asks : Entry → Asks
asks (constant b is s) = constant_asks b s
asks (atom a is s) = narrow a s
asks (negation f is s) = append (f is not s ∷ [])
asks (join k l r is s) = join_asks k s l r
