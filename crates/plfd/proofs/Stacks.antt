-- What a node does to the size, the nodes, the code and the form of a stack of formulas.
use Rattle.std.proofs.Common.{◌≡◌, ◌+◌, ◌-◌, ◌≤◌, true, List, [], ◌∷◌, ◌++◌, length, sym, refl, ◌∙◌, append_assoc, arith}
use Rattle.std.proofs.lemmas.Bool.{and_parts, and_from}
use Rattle.plfd.specs.declared.settings.Setting.{Setting}
use Rattle.plfd.specs.declared.nodes.Node.{Node}
use Rattle.plfd.specs.declared.nodes.Node.TheVariants.{Constant, Atomic, Not, Join}
use Rattle.plfd.specs.Formula.{Formula, constant, atom, negation, join, nodes, total, well_formed, all_formed}
use Rattle.plfd.specs.Code.{command, code, codes, arity, raise, node_fits}

pub some_nodes : (f : Formula) → 1 ≤ nodes f
some_nodes (constant b) = omega arith
some_nodes (atom a) = omega arith
some_nodes (negation f) = omega arith
some_nodes (join k f g) = omega arith

pub raise_length : (s : List Formula) (n : Node) → arity n ≤ length s → length (raise s n) ≡ length s - arity n + 1
raise_length s (Constant b) h = omega arith
raise_length s (Atomic a) h = omega arith
raise_length [] Not h = absurd (omega arith)
raise_length (f ∷ s) Not h = omega arith
raise_length [] (Join k) h = absurd (omega arith)
raise_length (g ∷ []) (Join k) h = absurd (omega arith)
raise_length (g ∷ f ∷ s) (Join k) h = omega arith

pub raise_total : (s : List Formula) (n : Node) → arity n ≤ length s → total (raise s n) ≡ total s + 1
raise_total s (Constant b) h = omega arith
raise_total s (Atomic a) h = omega arith
raise_total [] Not h = absurd (omega arith)
raise_total (f ∷ s) Not h = omega arith
raise_total [] (Join k) h = absurd (omega arith)
raise_total (g ∷ []) (Join k) h = absurd (omega arith)
raise_total (g ∷ f ∷ s) (Join k) h = omega arith

pub raise_codes : (s : List Formula) (n : Node) → arity n ≤ length s → codes (raise s n) ≡ codes s ++ command n
raise_codes s (Constant b) h = refl
raise_codes s (Atomic a) h = refl
raise_codes [] Not h = absurd (omega arith)
raise_codes (f ∷ s) Not h = sym (append_assoc (codes s) (code f) (command Not))
raise_codes [] (Join k) h = absurd (omega arith)
raise_codes (g ∷ []) (Join k) h = absurd (omega arith)
raise_codes (g ∷ f ∷ s) (Join k) h =
    sym (append_assoc (codes s ++ code f) (code g) (command (Join k)) ∙ append_assoc (codes s) (code f) (code g ++ command (Join k)))

pub raise_formed : (S : List Setting) (s : List Formula) (n : Node) → arity n ≤ length s → all_formed S s ≡ true → node_fits S n ≡ true → all_formed S (raise s n) ≡ true
raise_formed S s (Constant b) h all fits = all
raise_formed S s (Atomic a) h all fits = and_from _ _ fits all
raise_formed S [] Not h all fits = absurd (omega arith)
raise_formed S (f ∷ s) Not h all fits = all
raise_formed S [] (Join k) h all fits = absurd (omega arith)
raise_formed S (g ∷ []) (Join k) h all fits = absurd (omega arith)
raise_formed S (g ∷ f ∷ s) (Join k) h all fits =
    let p = and_parts (well_formed S g) _ all in
    let q = and_parts (well_formed S f) (all_formed S s) p.1 in
    and_from _ _ (and_from _ _ q.0 p.0) q.1

-- a node looks no deeper than it takes
pub raise-append : (s r : List Formula) (n : Node) → arity n ≤ length s → raise (s ++ r) n ≡ raise s n ++ r
raise-append s r (Constant b) h = refl
raise-append s r (Atomic a) h = refl
raise-append [] r Not h = absurd (omega arith)
raise-append (f ∷ s) r Not h = refl
raise-append [] r (Join k) h = absurd (omega arith)
raise-append (g ∷ []) r (Join k) h = absurd (omega arith)
raise-append (g ∷ f ∷ s) r (Join k) h = refl
