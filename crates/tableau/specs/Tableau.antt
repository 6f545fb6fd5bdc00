-- The closed tableau: which bytes close a branch, tree by tree. There is no cursor and no order of the entries.
use Rattle.std.specs.Prelude.{◌≡◌, ℕ, ◌+◌, ◌<◌, Bool, true, List, ◌++◌, length}
use Rattle.plfd.specs.declared.settings.Setting.{Setting}
use Rattle.plfd.specs.declared.nodes.Atom.{Atom}
use Rattle.plfd.specs.Formula.{Formula}
use Rattle.tableau.specs.declared.commands.Move.TheVariants.{Append, Split, Narrow, Clash}
use Rattle.tableau.specs.declared.commands.Command.TheVariants.{Expand, Empty}
use Rattle.tableau.specs.Asks.{Entry, clash, narrow, append, split}
use Rattle.tableau.specs.Branches.{Branch, fits, start, asked, grown, cut, empty}
use Rattle.tableau.specs.Tape.{spelled}

-- A branch closes by an entry that can't be met, or by a setting whose set is empty. Else an entry, any one and again
-- if need be, gets what it asks for, within the limits, and what comes of the branch closes: the left part first.
pub data Closes (S : List Setting) : Branch → List ℕ → Type 0 where
  by_clash : {b : Branch} (k : ℕ) → asked b k ≡ clash → Closes S b (spelled (Expand Clash k))
  by_empty : {b : Branch} (x : ℕ) → x < length S → empty S b.sets x ≡ true → Closes S b (spelled (Empty x))
  by_append : {b : Branch} (k : ℕ) (es : List Entry) {t : List ℕ} → asked b k ≡ append es → fits (grown es b) ≡ true → Closes S (grown es b) t → Closes S b (spelled (Expand Append k) ++ t)
  by_narrow : {b : Branch} (k : ℕ) (a : Atom) (s : Bool) {t : List ℕ} → asked b k ≡ narrow a s → fits (cut a s b) ≡ true → Closes S (cut a s b) t → Closes S b (spelled (Expand Narrow k) ++ t)
  by_split : {b : Branch} (k : ℕ) (l r : List Entry) {t u : List ℕ} → asked b k ≡ split l r → fits (grown l b) ≡ true → fits (grown r b) ≡ true → Closes S (grown l b) t → Closes S (grown r b) u → Closes S b (spelled (Expand Split k) ++ (t ++ u))

-- how many commands a closed tableau has
abbrev pub command_count : {S : List Setting} {b : Branch} {t : List ℕ} → Closes S b t → ℕ
command_count (by_clash k e) = 1
command_count (by_empty x l e) = 1
command_count (by_append k es e f c) = 1 + command_count c
command_count (by_narrow k a s e f c) = 1 + command_count c
command_count (by_split k l r e f g c d) = 1 + (command_count c + command_count d)

-- the bytes are a closed tableau of the page
abbrev pub Closed : List Setting → List Formula → List ℕ → Type 0
Closed S rules t = Closes S (start S rules) t
