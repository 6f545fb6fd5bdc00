-- Nodes in postfix order: the formulas that they make, and what holds of a list of them.
use Rattle.std.specs.Prelude.{◌≡◌, ℕ, zero, suc, ◌+◌, ◌-◌, ◌<◌, ◌≤◌, true, false, List, [], ◌∷◌, length, take, drop, slice_index, slice_index_or}
use Rattle.std.specs.List.{flat_map}
use Rattle.plfd.specs.declared.settings.Setting.{Setting}
use Rattle.plfd.specs.declared.nodes.Node.{Node}
use Rattle.plfd.specs.declared.nodes.Node.TheVariants.{Constant}
use Rattle.plfd.specs.Formula.{Formula, nodes}
use Rattle.plfd.specs.Code.{arity, command, top, raise, node_fits}
use Rattle.book.specs.declared.nodes.Placed.{Placed}

-- one node after another upon a stack of formulas
abbrev pub raised : List Formula → List Placed → List Formula
raised s [] = s
raised s (p ∷ ps) = raised (raise s p.node) ps

-- the formulas that the first k nodes make, the last one first; and those that all nodes make
abbrev pub stack : List Placed → ℕ → List Formula
stack ps k = raised [] (take k ps)

abbrev pub made : List Placed → List Formula
made ps = raised [] ps

-- what stands where nothing was placed, and what stands at a place
abbrev pub unplaced : Placed
unplaced = record { node = Constant false; span = 0 }

abbrev pub placed : List Placed → ℕ → Placed
placed ps k = slice_index_or ps k unplaced

-- the formula whose last node is at the place k
abbrev pub formula_at : List Placed → ℕ → Formula
formula_at ps k = top (stack ps (k + 1))

-- the nodes of the formula that a node makes of those before it, and the record of it
abbrev pub made_nodes : List Placed → Node → ℕ
made_nodes ps n = nodes (top (raise (made ps) n))

abbrev pub record_of : List Placed → Node → Placed
record_of ps n = record { node = n; span = made_nodes ps n }

-- the span of each node counts the nodes of the formula that ends there
abbrev pub Spans : List Placed → Type 0
Spans ps = (k : ℕ) → k < length ps → (placed ps k).span ≡ nodes (formula_at ps k)

-- before each node stand the formulas that it takes
abbrev pub Supplied : List Placed → Type 0
Supplied ps = (k : ℕ) → k < length ps → arity (placed ps k).node ≤ length (stack ps k)

-- each node fits the settings
abbrev pub Fitting : List Setting → List Placed → Type 0
Fitting S ps = (k : ℕ) → k < length ps → node_fits S (placed ps k).node ≡ true

-- the commands of nodes, one behind the other
abbrev pub commands : List Placed → List ℕ
commands ps = flat_map (λ p. command p.node) ps

-- the first node of rule k; `ends` has the place behind each rule's last node
abbrev pub start : List ℕ → ℕ → ℕ
start ends zero = 0
start ends (suc k) = slice_index ends k

-- the nodes of rule k
abbrev pub nodes_of_rule : List Placed → List ℕ → ℕ → List Placed
nodes_of_rule ps ends k = take (slice_index ends k - start ends k) (drop (start ends k) ps)

-- each rule has a node
abbrev pub Rises : List ℕ → Type 0
Rises ends = (k : ℕ) → k < length ends → start ends k < slice_index ends k

-- each rule is one formula: its last node spans all of its nodes
abbrev pub Covers : List Placed → List ℕ → Type 0
Covers ps ends = (k : ℕ) → k < length ends → (placed ps (slice_index ends k - 1)).span ≡ slice_index ends k - start ends k
