-- The postfix code of a formula: one command for each node, a side before the node that takes it.
use Rattle.std.specs.Prelude.{ℕ, suc, ◌/◌, ◌%◌, Bool, true, false, List, [], ◌∷◌, ◌++◌}
use Rattle.plfd.specs.declared.settings.Setting.{Setting}
use Rattle.plfd.specs.declared.nodes.Atom.{Atom}
use Rattle.plfd.specs.declared.nodes.Atom.TheVariants.{Is, Range}
use Rattle.plfd.specs.declared.nodes.Connective.{Connective}
use Rattle.plfd.specs.declared.nodes.Connective.TheVariants.{And, Or, Implies, Iff}
use Rattle.plfd.specs.declared.nodes.Node.{Node}
use Rattle.plfd.specs.declared.nodes.Node.TheVariants.{Constant, Atomic, Not, Join}
use Rattle.plfd.specs.Formula.{Formula, constant, atom, negation, join, atom_fits}

-- a number in two bytes, the high one first
abbrev pub two_bytes : ℕ → List ℕ
two_bytes n = (n / 256) ∷ (n % 256) ∷ []

-- the command bytes of constants and connectives, and the commands of atoms with their operands
abbrev pub constant_byte : Bool → ℕ
constant_byte true = 0x01
constant_byte false = 0x02

abbrev pub atom_code : Atom → List ℕ
atom_code (Is x v) = 0x03 ∷ x ∷ two_bytes v
atom_code (Range x lo hi) = 0x04 ∷ x ∷ (two_bytes lo ++ two_bytes hi)

abbrev pub connective_byte : Connective → ℕ
connective_byte And = 0x06
connective_byte Or = 0x07
connective_byte Implies = 0x08
connective_byte Iff = 0x09

-- the command of a node
abbrev pub command : Node → List ℕ
command (Constant b) = constant_byte b ∷ []
command (Atomic a) = atom_code a
command Not = 0x05 ∷ []
command (Join k) = connective_byte k ∷ []

-- the commands of a formula: each side's before the node that takes it
abbrev pub code : Formula → List ℕ
code (constant b) = command (Constant b)
code (atom a) = command (Atomic a)
code (negation f) = code f ++ command Not
code (join k f g) = code f ++ (code g ++ command (Join k))

-- how many bytes follow the command byte
abbrev pub operands : Node → ℕ
operands (Constant b) = 0
operands (Atomic (Is x v)) = 3
operands (Atomic (Range x lo hi)) = 5
operands Not = 0
operands (Join k) = 0

-- how many bytes a command has
abbrev pub width : Node → ℕ
width n = suc (operands n)

-- how many formulas a node takes from the stack
abbrev pub arity : Node → ℕ
arity (Constant b) = 0
arity (Atomic a) = 0
arity Not = 1
arity (Join k) = 2

-- the top of a stack, and what is below it
abbrev pub top : List Formula → Formula
top [] = constant true
top (f ∷ s) = f

abbrev pub below : List Formula → List Formula
below [] = []
below (f ∷ s) = s

-- a node upon a stack of formulas, the top first: the right side is on top, the left below it
abbrev pub raise : List Formula → Node → List Formula
raise s (Constant b) = constant b ∷ s
raise s (Atomic a) = atom a ∷ s
raise s Not = negation (top s) ∷ below s
raise s (Join k) = join k (top (below s)) (top s) ∷ below (below s)

-- the code of a stack: the lowest formula's comes first
abbrev pub codes : List Formula → List ℕ
codes [] = []
codes (f ∷ s) = codes s ++ code f

-- a node is well formed over a list of settings: only an atom speaks of them
abbrev pub node_fits : List Setting → Node → Bool
node_fits S (Constant b) = true
node_fits S (Atomic a) = atom_fits S a
node_fits S Not = true
node_fits S (Join k) = true
