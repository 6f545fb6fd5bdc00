-- Formulas with equal codes are equal: a code's commands are told apart, and they raise the formula upon any stack.
use Rattle.std.proofs.Common.{◌≡◌, ℕ, List, [], ◌∷◌, ◌++◌, length, sym, refl, ap, ◌∙◌, append_assoc, append-nil, arith}
use Rattle.std.proofs.lemmas.List.{length-append, append_cancel_left}
use Rattle.plfd.specs.declared.nodes.Node.{Node}
use Rattle.plfd.specs.declared.nodes.Node.TheVariants.{Constant, Atomic, Not, Join}
use Rattle.plfd.specs.Formula.{Formula, constant, atom, negation, join}
use Rattle.plfd.specs.Code.{command, code, raise, top}
use Rattle.plfd.specs.Reading.{decoded}
use Rattle.plfd.proofs.Spelling.{command_length, decodes}

-- the nodes of a formula in the order of its code, the bytes of nodes, and the stack that they raise
abbrev postfix : Formula → List Node
postfix (constant b) = Constant b ∷ []
postfix (atom a) = Atomic a ∷ []
postfix (negation f) = postfix f ++ Not ∷ []
postfix (join k f g) = postfix f ++ (postfix g ++ Join k ∷ [])

abbrev commands : List Node → List ℕ
commands [] = []
commands (n ∷ ns) = command n ++ commands ns

abbrev raised : List Formula → List Node → List Formula
raised s [] = s
raised s (n ∷ ns) = raised (raise s n) ns

commands-append : (ns ms : List Node) → commands (ns ++ ms) ≡ commands ns ++ commands ms
commands-append [] ms = refl
commands-append (n ∷ ns) ms = ap (λ t. command n ++ t) (commands-append ns ms) ∙ sym (append_assoc (command n) (commands ns) (commands ms))

code_is : (f : Formula) → commands (postfix f) ≡ code f
code_is (constant b) = append-nil (command (Constant b))
code_is (atom a) = append-nil (command (Atomic a))
code_is (negation f) = commands-append (postfix f) (Not ∷ []) ∙ ap (λ t. t ++ command Not) (code_is f)
code_is (join k f g) =
    let e = code_is f in
    let h = commands-append (postfix g) (Join k ∷ []) ∙ ap (λ t. t ++ command (Join k)) (code_is g) in
    commands-append (postfix f) (postfix g ++ Join k ∷ []) ∙ (λ i. e i ++ h i)

raised_on : (f : Formula) (s : List Formula) (ns : List Node) → raised s (postfix f ++ ns) ≡ raised (f ∷ s) ns
raised_on (constant b) s ns = refl
raised_on (atom a) s ns = refl
raised_on (negation f) s ns = ap (raised s) (append_assoc (postfix f) (Not ∷ []) ns) ∙ raised_on f s (Not ∷ ns)
raised_on (join k f g) s ns =
    ap (raised s) (append_assoc (postfix f) (postfix g ++ Join k ∷ []) ns ∙ ap (λ t. postfix f ++ t) (append_assoc (postfix g) (Join k ∷ []) ns))
    ∙ raised_on f s (postfix g ++ Join k ∷ ns)
    ∙ raised_on g (f ∷ s) (Join k ∷ ns)

-- the first command of equal bytes is the same
same_first : (n m : Node) (t u : List ℕ) → command n ++ t ≡ command m ++ u → n ≡ m
same_first n m t u e = let h = sym (decodes 0 n t) ∙ ap (decoded 0) e ∙ decodes 0 m u in cc

same_nodes : (ns ms : List Node) → commands ns ≡ commands ms → ns ≡ ms
same_nodes [] [] e = refl
same_nodes [] (m ∷ ms) e = absurd (omega (arith, ap length e, length-append (command m) (commands ms), command_length m))
same_nodes (n ∷ ns) [] e = absurd (omega (arith, ap length e, length-append (command n) (commands ns), command_length n))
same_nodes (n ∷ ns) (m ∷ ms) e =
    let first = same_first n m (commands ns) (commands ms) e in
    let rest = append_cancel_left (command m) (commands ns) (commands ms) (ap (λ c. command c ++ commands ns) (sym first) ∙ e) in
    let more = same_nodes ns ms rest in
    λ i. first i ∷ more i

pub same_formula : (f g : Formula) → code f ≡ code g → f ≡ g
same_formula f g e =
    let nodes = same_nodes (postfix f) (postfix g) (code_is f ∙ e ∙ sym (code_is g)) in
    ap top (sym (raised_on f [] []) ∙ ap (λ ns. raised [] (ns ++ [])) nodes ∙ raised_on g [] [])
