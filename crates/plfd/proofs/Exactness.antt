-- The law of reading: the code of a formula that fits is read as it, and whatever is read as a formula is its code.
use Rattle.std.proofs.Common.{◌≡◌, ℕ, zero, suc, ◌+◌, ◌<◌, ◌≤◌, true, List, [], ◌∷◌, ◌++◌, length, drop, sym, refl, ap, ◌∙◌, subst, append_assoc, append-nil, arith}
use Rattle.std.proofs.lemmas.List.{length-append, length-drop, get_or-drop, drop_at}
use Rattle.std.proofs.lemmas.Bool.{le-ltb, lt-leb, and_parts}
use Rattle.plfd.specs.declared.settings.Setting.{Setting}
use Rattle.plfd.specs.declared.nodes.Node.{Node}
use Rattle.plfd.specs.declared.nodes.Node.TheVariants.{Constant, Atomic, Not, Join}
use Rattle.plfd.specs.Answers.{Answer, given, refused, unless}
use Rattle.plfd.specs.Formula.{Formula, constant, atom, negation, join, nodes, total, well_formed, all_formed}
use Rattle.plfd.specs.Code.{command, code, codes, top, width, arity, raise, node_fits}
use Rattle.plfd.specs.Reading.{node_limit, commanded, stack_checks, end_checks, reading, read}
use Rattle.plfd.specs.Exact.{Bytes, ReadingIsExact}
use Rattle.plfd.proofs.Spelling.{IsCommand, is_command, command_length, commands}
use Rattle.plfd.proofs.Steps.{next_command, refused_command}
use Rattle.plfd.proofs.Checks.{given≢refused, unless_none, passed_stack, passed_end}
use Rattle.plfd.proofs.Stacks.{raise_total, raise_codes, raise_formed}

-- ---- a code is read
module _ (S : List Setting) where
  step : (u : ℕ) (s : List Formula) (at : ℕ) (n : Node) (rest : List ℕ) → node_fits S n ≡ true → arity n ≤ length s → u < node_limit → reading S u s at 0 (command n ++ rest) ≡ reading S (u + 1) (raise s n) (at + length (command n)) 0 rest
  step u s at n rest fits enough room =
      let bs = command n ++ rest in
      let long : width n ≤ length bs = omega (arith, command_length n, length-append (command n) rest) in
      next_command S u s at bs n (commands S at n rest fits) long
      ∙ unless_none (stack_checks (length s) u at n) (le-ltb _ _ enough, (lt-leb _ _ room, tt))
      ∙ (λ i. reading S (u + 1) (raise s n) (at + sym (command_length n) i) 0 (drop_at (command n) rest (width n) (command_length n) i))

  reads_on : (f : Formula) (u : ℕ) (s : List Formula) (at : ℕ) (rest : List ℕ) → well_formed S f ≡ true → u + nodes f ≤ node_limit → reading S u s at 0 (code f ++ rest) ≡ reading S (u + nodes f) (f ∷ s) (at + length (code f)) 0 rest
  reads_on (constant b) u s at rest h room = step u s at (Constant b) rest refl (omega arith) (omega arith)
  reads_on (atom a) u s at rest h room = step u s at (Atomic a) rest h (omega arith) (omega arith)
  reads_on (negation f) u s at rest h room =
      let more : u + nodes f + 1 ≡ u + (nodes f + 1) = omega arith in
      let far : at + length (code f) + 1 ≡ at + length (code f ++ command Not) = omega (arith, length-append (code f) (command Not)) in
      ap (reading S u s at 0) (append_assoc (code f) (command Not) rest)
      ∙ reads_on f u s at (command Not ++ rest) h (omega arith)
      ∙ step (u + nodes f) (f ∷ s) (at + length (code f)) Not rest refl (omega arith) (omega arith)
      ∙ (λ i. reading S (more i) (negation f ∷ s) (far i) 0 rest)
  reads_on (join k f g) u s at rest h room =
      let p = and_parts (well_formed S f) (well_formed S g) h in
      let tail = command (Join k) in
      let more : u + nodes f + nodes g + 1 ≡ u + (nodes f + nodes g + 1) = omega arith in
      let far : at + length (code f) + length (code g) + 1 ≡ at + length (code f ++ (code g ++ tail)) = omega (arith, length-append (code f) (code g ++ tail), length-append (code g) tail) in
      ap (reading S u s at 0) (append_assoc (code f) (code g ++ tail) rest ∙ ap (λ l. code f ++ l) (append_assoc (code g) tail rest))
      ∙ reads_on f u s at (code g ++ (tail ++ rest)) p.0 (omega arith)
      ∙ reads_on g (u + nodes f) (f ∷ s) (at + length (code f)) (tail ++ rest) p.1 (omega arith)
      ∙ step (u + nodes f + nodes g) (g ∷ f ∷ s) (at + length (code f) + length (code g)) (Join k) rest refl (omega arith) (omega arith)
      ∙ (λ i. reading S (more i) (join k f g ∷ s) (far i) 0 rest)

  code_read : (u : ℕ) (f : Formula) → well_formed S f ≡ true → u + nodes f ≤ node_limit → read S u (code f) ≡ given f
  code_read u f h room = ap (reading S u [] 0 0) (sym (append-nil (code f))) ∙ reads_on f u [] 0 [] h room

-- ---- what is read is a code

-- f is read from the bytes bs upon the stack s
pub record Read (S : List Setting) (s : List Formula) (u : ℕ) (bs : List ℕ) (f : Formula) : Type 0 where
  pub written : codes s ++ bs ≡ code f
  pub formed : well_formed S f ≡ true
  pub room : u + nodes f ≤ node_limit + total s

finished : (S : List Setting) (s : List Formula) (u at : ℕ) (f : Formula) → u ≤ node_limit → all_formed S s ≡ true → unless (end_checks (length s) at) (given (top s)) ≡ given f → Read S s u [] f
finished S [] u at f few all e = absurd (given≢refused (sym e))
finished S (g ∷ []) u at f few all e =
    let same : g ≡ f = cc in
    subst (λ x. Read S (g ∷ []) u [] x) same (record { written = append-nil (code g); formed = (and_parts (well_formed S g) true all).0; room = omega arith })
finished S (g ∷ h ∷ s) u at f few all e = absurd (omega (arith, (passed_end (length (g ∷ h ∷ s)) at e).0))

abbrev Sound : List Setting → Formula → ℕ → Type 0
Sound S f k = (s : List Formula) (u at : ℕ) (bs : List ℕ) → length bs ≤ k → u ≤ node_limit → Bytes bs → all_formed S s ≡ true → reading S u s at 0 bs ≡ given f → Read S s u bs f

module _ (S : List Setting) (f : Formula) (k : ℕ) (shorter : Sound S f k) (s : List Formula) (u at : ℕ) (bs : List ℕ) (long : length bs ≤ suc k) (some : 0 < length bs) (B : Bytes bs) (all : all_formed S s ≡ true) where
  goes_on : (n : Node) → IsCommand S bs n → arity n ≤ length s → u < node_limit → reading S (u + 1) (raise s n) (at + width n) 0 (drop (width n) bs) ≡ given f → Read S s u bs f
  goes_on n is enough room e =
      let r = shorter (raise s n) (u + 1) (at + width n) (drop (width n) bs) (omega (arith, length-drop (width n) bs)) (omega arith)
      (λ j. rw (get_or-drop (width n) bs j 0) (B (width n + j))) (raise_formed S s n enough all is.fits) e in
      record {
        written =
            ap (λ c. codes s ++ c) (is.spelled B)
            ∙ sym (append_assoc (codes s) (command n) (drop (width n) bs))
            ∙ ap (λ c. c ++ drop (width n) bs) (sym (raise_codes s n enough))
            ∙ r.written;
        formed = r.formed;
        room = omega (arith, r.room, raise_total s n enough);
      }

  checked : (n : Node) → IsCommand S bs n → unless (stack_checks (length s) u at n) (reading S (u + 1) (raise s n) (at + width n) 0 (drop (width n) bs)) ≡ given f → Read S s u bs f
  checked n is e = let ok = passed_stack (length s) u at n e in goes_on n is ok.0 ok.1 ok.2

  commanded_as : (r : Answer Node) → commanded S at bs ≡ r → reading S u s at 0 bs ≡ given f → Read S s u bs f
  commanded_as (given n) is e =
      let c = is_command S at bs n is in
      checked n c (sym (next_command S u s at bs n is c.long) ∙ e)
  commanded_as (refused w) is e = absurd (given≢refused (sym e ∙ refused_command S u s at bs w some is))

sound : (S : List Setting) (f : Formula) (k : ℕ) → Sound S f k
sound S f k s u at [] l few B all e = finished S s u at f few all e
sound S f zero s u at (b ∷ bs) l few B all e = absurd (omega arith)
sound S f (suc k) s u at (b ∷ bs) l few B all e =
    commanded_as S f k (sound S f k) s u at (b ∷ bs) l (omega arith) B all (commanded S at (b ∷ bs)) refl e

pub reading_is_exact : ReadingIsExact
reading_is_exact S u bytes f few B = (
  (λ e. let r = sound S f (length bytes) [] u 0 bytes (omega arith) few B refl e in record { written = r.written; formed = r.formed; room = omega (arith, r.room) }),
  (λ w. subst (λ c. read S u c ≡ given f) (sym w.written) (code_read S u f w.formed w.room)),
)
