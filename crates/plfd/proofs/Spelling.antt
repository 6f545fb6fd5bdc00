-- A command that is read is spelled by its bytes and fits the settings; and the bytes of a node that fits are read as it.
use Rattle.std.proofs.Common.{◌≡◌, ℕ, zero, suc, ◌+◌, ◌*◌, ◌/◌, ◌%◌, ◌<◌, ◌≤◌, true, false, nat_lt, List, [], ◌∷◌, ◌++◌, length, slice_index, drop, Some, None, Option, sym, refl, ap, ◌∙◌, subst, arith}
use Rattle.std.proofs.lemmas.Bool.{le-ltb, lt-ltb, lt-leb, ltb-true, ltb-false, leb-false, and_parts, and_from, not-false, not_from_true}
use Rattle.plfd.specs.declared.settings.Setting.{Setting}
use Rattle.plfd.specs.declared.nodes.Atom.TheVariants.{Is, Range}
use Rattle.plfd.specs.declared.nodes.Connective.TheVariants.{And, Or, Implies, Iff}
use Rattle.plfd.specs.declared.nodes.Node.{Node}
use Rattle.plfd.specs.declared.nodes.Node.TheVariants.{Constant, Atomic, Not, Join}
use Rattle.plfd.specs.declared.faults.CodeFault.TheVariants.{CutShort, UnknownCommand}
use Rattle.plfd.specs.Answers.{Answer, given, refused, and_then, unless, ◌⇒◌}
use Rattle.plfd.specs.Code.{command, operands, width, node_fits}
use Rattle.plfd.specs.Faults.{fault}
use Rattle.plfd.specs.Reading.{pair, node_of, decoded, setting_checks, commanded}
use Rattle.plfd.specs.Exact.{Bytes}
use Rattle.plfd.proofs.Checks.{given≢refused, NoneHolds, unless_none, passed_checks}

-- ---- what is read

abbrev Spelled : List ℕ → Node → Type 0
Spelled bs n = width n ≤ length bs → Bytes bs → bs ≡ command n ++ drop (width n) bs

abbrev Spells : List ℕ → Option Node → Type 0
Spells bs None = Unit {0}
Spells bs (Some n) = Spelled bs n

pub high_byte : (h l : ℕ) → l < 256 → h ≡ (h * 256 + l) / 256
high_byte h l small = omega arith

pub low_byte : (h l : ℕ) → l < 256 → l ≡ (h * 256 + l) % 256
low_byte h l small = omega arith

spells_is : (bs : List ℕ) → Spelled (3 ∷ bs) (Atomic (Is (slice_index bs 0) (pair bs 1)))
spells_is [] long B = absurd (omega arith)
spells_is (x ∷ []) long B = absurd (omega arith)
spells_is (x ∷ h ∷ []) long B = absurd (omega arith)
spells_is (x ∷ h ∷ l ∷ bs) long B =
    let small : l < 256 = B 3 in
    λ i. 3 ∷ x ∷ high_byte h l small i ∷ low_byte h l small i ∷ bs

spells_within : (bs : List ℕ) → Spelled (4 ∷ bs) (Atomic (Range (slice_index bs 0) (pair bs 1) (pair bs 3)))
spells_within [] long B = absurd (omega arith)
spells_within (x ∷ []) long B = absurd (omega arith)
spells_within (x ∷ h ∷ []) long B = absurd (omega arith)
spells_within (x ∷ h ∷ l ∷ []) long B = absurd (omega arith)
spells_within (x ∷ h ∷ l ∷ h' ∷ []) long B = absurd (omega arith)
spells_within (x ∷ h ∷ l ∷ h' ∷ l' ∷ bs) long B =
    let small : l < 256 = B 3 in
    let small' : l' < 256 = B 5 in
    λ i. 4 ∷ x ∷ high_byte h l small i ∷ low_byte h l small i ∷ high_byte h' l' small' i ∷ low_byte h' l' small' i ∷ bs

-- each byte of the table, and those past it
spells : (b : ℕ) (bs : List ℕ) → Spells (b ∷ bs) (node_of b bs)
spells zero bs = tt
spells (suc zero) bs = λ long B. refl
spells (suc (suc zero)) bs = λ long B. refl
spells (suc (suc (suc zero))) bs = spells_is bs
spells (suc (suc (suc (suc zero)))) bs = spells_within bs
spells (suc (suc (suc (suc (suc zero))))) bs = λ long B. refl
spells (suc (suc (suc (suc (suc (suc zero)))))) bs = λ long B. refl
spells (suc (suc (suc (suc (suc (suc (suc zero))))))) bs = λ long B. refl
spells (suc (suc (suc (suc (suc (suc (suc (suc zero)))))))) bs = λ long B. refl
spells (suc (suc (suc (suc (suc (suc (suc (suc (suc zero))))))))) bs = λ long B. refl
spells (suc (suc (suc (suc (suc (suc (suc (suc (suc (suc b)))))))))) bs = tt

pub record IsCommand (S : List Setting) (bs : List ℕ) (n : Node) : Type 0 where
  pub long : width n ≤ length bs
  pub fits : node_fits S n ≡ true
  pub spelled : Bytes bs → bs ≡ command n ++ drop (width n) bs

-- a node fits the settings exactly where none of their checks holds of it
fits_if : (S : List Setting) (at : ℕ) (n : Node) → NoneHolds (setting_checks S at n) → node_fits S n ≡ true
fits_if S at (Constant b) h = refl
fits_if S at (Atomic a) h = and_from _ _ (lt-ltb _ _ (leb-false _ _ h.0)) (not-false _ h.1.0)
fits_if S at Not h = refl
fits_if S at (Join k) h = refl

passes_if : (S : List Setting) (at : ℕ) (n : Node) → node_fits S n ≡ true → NoneHolds (setting_checks S at n)
passes_if S at (Constant b) h = (refl, (refl, tt))
passes_if S at (Atomic a) h = let p = and_parts _ _ h in (lt-leb _ _ (ltb-true _ _ p.0), (not_from_true _ p.1, tt))
passes_if S at Not h = (refl, (refl, tt))
passes_if S at (Join k) h = (refl, (refl, tt))

abbrev Decoded : List ℕ → Node → Type 0
Decoded bs n = (width n ≤ length bs) × (Bytes bs → bs ≡ command n ++ drop (width n) bs)

decoded_of : (at b : ℕ) (bs : List ℕ) (o : Option Node) (n : Node) → Spells (b ∷ bs) o → elim o [ None ↦ refused (fault UnknownCommand at) | Some m ↦ unless (nat_lt (length bs) (operands m) ⇒ fault CutShort at ∷ []) (given m) ] ≡ given n → Decoded (b ∷ bs) n
decoded_of at b bs None n h e = absurd (given≢refused (sym e))
decoded_of at b bs (Some m) n h e =
    let p = passed_checks (nat_lt (length bs) (operands m) ⇒ fault CutShort at ∷ []) e in
    let same : m ≡ n = cc (p.1) in
    let long : width m ≤ length (b ∷ bs) = omega (arith, ltb-false _ _ p.0.0) in
    subst (Decoded (b ∷ bs)) same (long, h long)

is_decoded : (at : ℕ) (bs : List ℕ) (n : Node) → decoded at bs ≡ given n → Decoded bs n
is_decoded at [] n e = absurd (given≢refused (sym e))
is_decoded at (b ∷ bs) n e = decoded_of at b bs (node_of b bs) n (spells b bs) e

checked_of : (S : List Setting) (at : ℕ) (bs : List ℕ) (r : Answer Node) (n : Node) → decoded at bs ≡ r → and_then r (λ m. unless (setting_checks S at m) (given m)) ≡ given n → IsCommand S bs n
checked_of S at bs (given m) n is e =
    let p = passed_checks (setting_checks S at m) e in
    let same : m ≡ n = cc (p.1) in
    let d = is_decoded at bs m is in
    subst (IsCommand S bs) same (record { long = d.0; fits = fits_if S at m p.0; spelled = d.1 })
checked_of S at bs (refused w) n is e = absurd (given≢refused (sym e))

pub is_command : (S : List Setting) (at : ℕ) (bs : List ℕ) (n : Node) → commanded S at bs ≡ given n → IsCommand S bs n
is_command S at bs n e = checked_of S at bs (decoded at bs) n refl e

-- ---- what is spelled

pub whole_pair : (n : ℕ) → n / 256 * 256 + n % 256 ≡ n
whole_pair n = omega arith

pub command_length : (n : Node) → length (command n) ≡ width n
command_length (Constant b) = refl
command_length (Atomic (Is x v)) = refl
command_length (Atomic (Range x lo hi)) = refl
command_length Not = refl
command_length (Join k) = refl

enough_operands : (at : ℕ) (bs : List ℕ) (n : Node) → operands n ≤ length bs → unless (nat_lt (length bs) (operands n) ⇒ fault CutShort at ∷ []) (given n) ≡ given n
enough_operands at bs n h = unless_none (nat_lt (length bs) (operands n) ⇒ fault CutShort at ∷ []) (le-ltb _ _ h, tt)

pub decodes : (at : ℕ) (n : Node) (rest : List ℕ) → decoded at (command n ++ rest) ≡ given n
decodes at (Constant true) rest = enough_operands at rest (Constant true) (omega arith)
decodes at (Constant false) rest = enough_operands at rest (Constant false) (omega arith)
decodes at (Atomic (Is x v)) rest =
    let bs = x ∷ v / 256 ∷ v % 256 ∷ rest in
    enough_operands at bs (Atomic (Is x (v / 256 * 256 + v % 256))) (omega arith) ∙ (λ i. given (Atomic (Is x (whole_pair v i))))
decodes at (Atomic (Range x lo hi)) rest =
    let bs = x ∷ lo / 256 ∷ lo % 256 ∷ hi / 256 ∷ hi % 256 ∷ rest in
    enough_operands at bs (Atomic (Range x (lo / 256 * 256 + lo % 256) (hi / 256 * 256 + hi % 256))) (omega arith)
    ∙ (λ i. given (Atomic (Range x (whole_pair lo i) (whole_pair hi i))))
decodes at Not rest = enough_operands at rest Not (omega arith)
decodes at (Join And) rest = enough_operands at rest (Join And) (omega arith)
decodes at (Join Or) rest = enough_operands at rest (Join Or) (omega arith)
decodes at (Join Implies) rest = enough_operands at rest (Join Implies) (omega arith)
decodes at (Join Iff) rest = enough_operands at rest (Join Iff) (omega arith)

pub commands : (S : List Setting) (at : ℕ) (n : Node) (rest : List ℕ) → node_fits S n ≡ true → commanded S at (command n ++ rest) ≡ given n
commands S at n rest h = ap (λ r. and_then r (λ m. unless (setting_checks S at m) (given m))) (decodes at n rest) ∙ unless_none (setting_checks S at n) (passes_if S at n h)
