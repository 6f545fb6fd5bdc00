-- The commands of nodes one behind the other: how long they are, where each goes, and that those of a rule are its code.
use Rattle.std.proofs.Common.{◌≡◌, ℕ, zero, suc, ◌+◌, ◌-◌, ◌<◌, ◌≤◌, true, List, [], ◌∷◌, ◌++◌, length, slice_index, take, drop, sum_by, sym, refl, ap, ◌∙◌, append_assoc, arith}
use Rattle.std.proofs.lemmas.List.{append_cancel_left, length-append, append-nil, drop_at, drop-drop, take_at, take_more}
use Rattle.std.proofs.lemmas.List.Concat.{flat_map-append, flat_map-cons}
use Rattle.std.proofs.lemmas.List.Sums.{sum_by-cons}
use Rattle.std.proofs.lemmas.List.Folds.{length-flat_map-take}
use Rattle.std.proofs.Math.Seq.{take-add}
use Rattle.plfd.specs.Code.{command, code, codes, operands, top}
use Rattle.plfd.specs.Formula.{constant}
use Rattle.plfd.proofs.Spelling.{command_length}
use Rattle.plfd.proofs.Stacks.{raise_codes}
use Rattle.promises.specs.Writing.{code_of}
use Rattle.book.specs.declared.book.Book.{Book}
use Rattle.book.specs.declared.nodes.Placed.{Placed}
use Rattle.book.specs.Places.{stack, placed, commands, nodes_of_rule, start, unplaced, Supplied}
use Rattle.book.specs.View.{page_of}
use Rattle.book.proofs.Stack.{stack_more}
use Rattle.book.proofs.Ends.{rule_within, rule_stack, rule_at}

pub commands_length : (ps : List Placed) → length (commands ps) ≡ sum_by (λ p. 1 + operands p.node) ps
commands_length [] = refl
commands_length (p ∷ ps) =
    omega (arith, ap length (flat_map-cons (λ q. command q.node) p ps), length-append (command p.node) (commands ps), command_length p.node, commands_length ps, sum_by-cons (λ q. 1 + operands q.node) p ps)

-- one node more
commands_more : (ps : List Placed) (k : ℕ) → k < length ps → commands (take (k + 1) ps) ≡ commands (take k ps) ++ command (placed ps k).node
commands_more ps k h =
    let c : Placed → List ℕ = λ p. command p.node in
    ap commands (take_more ps k unplaced h)
    ∙ flat_map-append c (take k ps) (placed ps k ∷ [])
    ∙ ap (λ l. commands (take k ps) ++ l) (append-nil (command (placed ps k).node))

-- the first nodes' commands are the code of the formulas that they make
codes_are : (ps : List Placed) → Supplied ps → (k : ℕ) → k ≤ length ps → codes (stack ps k) ≡ commands (take k ps)
codes_are ps supplied zero h = refl
codes_are ps supplied (suc k) h =
    let e : suc k ≡ k + 1 = omega arith in
    ap (λ j. codes (stack ps j)) e
    ∙ ap codes (stack_more ps k (omega arith))
    ∙ raise_codes (stack ps k) (placed ps k).node (supplied k (omega arith))
    ∙ ap (λ l. l ++ command (placed ps k).node) (codes_are ps supplied k (omega arith))
    ∙ sym (commands_more ps k (omega arith))
    ∙ ap (λ j. commands (take j ps)) (sym e)

pub rule_code : (b : Book) (k : ℕ) → k < length b.ends → commands (nodes_of_rule b.nodes.placed b.ends k) ≡ code_of (page_of b) k
rule_code b k h =
    let ps = b.nodes.placed in
    let from = start b.ends k in
    let end = slice_index b.ends k in
    let f = top (stack ps end) in
    let c : Placed → List ℕ = λ p. command p.node in
    let sum : end ≡ from + (end - from) = omega (arith, b.rises k h) in
    let back : end ≡ end - 1 + 1 = omega (arith, b.rises k h) in
    let within = rule_within b k h in
    let whole : commands (take from ps) ++ commands (nodes_of_rule ps b.ends k) ≡ commands (take end ps) =
    sym (flat_map-append c (take from ps) (nodes_of_rule ps b.ends k)) ∙ ap commands (sym (take-add from (end - from) ps)) ∙ ap (λ j. commands (take j ps)) (sym sum) in
    let parts : commands (take end ps) ≡ commands (take from ps) ++ code f =
    sym (codes_are ps b.nodes.supplied end within) ∙ ap codes (rule_stack b k h) ∙ ap (λ l. l ++ code f) (codes_are ps b.nodes.supplied from (omega (arith, b.rises k h))) in
    append_cancel_left (commands (take from ps)) _ _ (whole ∙ parts)
    ∙ ap (λ q. code (top (stack ps q))) back
    ∙ ap code (sym (rule_at b (constant true) k h))

-- the commands of the first k nodes are written to a buffer that was `first`, and the next ones go to the place `at`
pub record WrittenTo (ps : List Placed) (first : List ℕ) (k at : ℕ) (buffer : List ℕ) : Type 0 where
  pub reached : at ≡ length (commands (take k ps))
  pub bytes : buffer ≡ commands (take k ps) ++ drop (length (commands (take k ps))) first

-- bytes that are written behind those that were written before
written_on : (before more buffer : List ℕ) → length before + length more ≤ length buffer →
    take (length before) (before ++ drop (length before) buffer) ++ (more ++ drop (length before + length more) (before ++ drop (length before) buffer))
    ≡ (before ++ more) ++ drop (length (before ++ more)) buffer
written_on before more buffer fits =
    let rest = drop (length before) buffer in
    let behind : drop (length before + length more) (before ++ rest) ≡ drop (length (before ++ more)) buffer =
    sym (drop-drop (length more) (length before) (before ++ rest))
    ∙ ap (drop (length more)) (drop_at before rest (length before) refl)
    ∙ drop-drop (length more) (length before) buffer
    ∙ ap (λ n. drop n buffer) (sym (length-append before more)) in
    (λ i. take_at before rest (length before) refl i ++ (more ++ behind i)) ∙ sym (append_assoc before more (drop (length (before ++ more)) buffer))

module _ (ps : List Placed) (first : List ℕ) (room : length (commands ps) ≤ length first) {k at : ℕ} {buffer : List ℕ} (so_far : WrittenTo ps first k at buffer) (h : k < length ps) where
  abbrev next : List ℕ
  next = command (placed ps k).node

  fits : length (commands (take k ps)) + length next ≤ length first
  fits = omega (arith, room, length-flat_map-take (λ p. command p.node) ps k unplaced h)

  pub room_behind : length buffer ≡ length first → at + length next ≤ length buffer
  room_behind same = omega (arith, so_far.reached, fits, same)

  -- one command more
  pub written_more : (buffer' : List ℕ) (at' : ℕ) → at' ≡ at + length next → buffer' ≡ take at buffer ++ (next ++ drop (at + length next) buffer) → WrittenTo ps first (k + 1) at' buffer'
  written_more buffer' at' at_is buffer_is =
      let more = commands_more ps k h in
      record {
        reached = omega (arith, at_is, so_far.reached, ap length more, length-append (commands (take k ps)) next);
        bytes =
            buffer_is
            ∙ (λ i. take (so_far.reached i) (so_far.bytes i) ++ (next ++ drop (so_far.reached i + length next) (so_far.bytes i)))
            ∙ written_on (commands (take k ps)) next first fits
            ∙ ap (λ x. x ++ drop (length x) first) (sym more);
      }
