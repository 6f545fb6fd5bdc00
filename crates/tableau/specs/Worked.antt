-- Worked pages: small pages with what comes of them, by these definitions alone.
use Rattle.std.specs.Prelude.{◌≡◌, ℕ, zero, suc, ◌+◌, ◌/◌, ◌%◌, Bool, if◌then◌else◌, List, [], ◌∷◌, ◌++◌, map, slice_index}
use Rattle.plfd.specs.declared.settings.Setting.{Setting}
use Rattle.plfd.specs.Answers.{Reason, Answer, given, refused, and_then}
use Rattle.plfd.specs.Formula.{Formula, nodes}
use Rattle.plfd.specs.Reading.{read}
use Rattle.tableau.specs.declared.faults.TapeFault.TheVariants.{UnknownCommand, CutShort, NotThere, Misfit, SetNotEmpty, BranchFull, TrailingByte, BranchOpen}
use Rattle.tableau.specs.Branches.{Sets}
use Rattle.tableau.specs.Walk.{Outcome, found, none, spent, walk}
use Rattle.tableau.specs.Faults.{tape_fault}
use Rattle.tableau.specs.Examination.{examination}

-- what is asked of a page: a walk under an allowance, or the examination of a tape
pub data Question : Type 0 where
  walks : ℕ → Question
  examines : List ℕ → Question

-- what comes of it: found with the steps, the members of each setting's set and the row of the least of each; none
-- with the steps and the tape; spent with the steps; accepted with the commands; refused, with the reason
pub data Verdict : Type 0 where
  ends_found : ℕ → List (List ℕ) → List ℕ → Verdict
  ends_none : ℕ → List ℕ → Verdict
  ends_spent : ℕ → Verdict
  accepts : ℕ → Verdict
  refuses : Reason → Verdict

-- a page by its sizes and rule codes, a question, and what comes of it
pub record Worked : Type 0 where
  pub sizes : List ℕ
  pub codes : List (List ℕ)
  pub question : Question
  pub verdict : Verdict

-- the members below n, rising
abbrev pub members : ℕ → (ℕ → Bool) → List ℕ
members zero p = []
members (suc n) p = members n p ++ (if p n then n ∷ [] else [])

-- the members of each setting's set, from setting x on
abbrev pub listed : List Setting → ℕ → Sets → List (List ℕ)
listed [] x T = []
listed (s ∷ S) x T = members s.size (T x) ∷ listed S (suc x) T

-- the least of members that are listed rising
abbrev pub least : List ℕ → ℕ
least vs = slice_index vs 0

-- an outcome and an examination's answer as they are listed
abbrev pub shown : List Setting → Outcome → Verdict
shown S (found T k) = ends_found k (listed S 0 T) (map least (listed S 0 T))
shown S (none t k) = ends_none k t
shown S (spent k) = ends_spent k

abbrev pub judged : Answer ℕ → Verdict
judged (given k) = accepts k
judged (refused w) = refuses w

-- the rules that codes say, where `used` nodes are taken
abbrev pub laid : List Setting → ℕ → List (List ℕ) → Answer (List Formula)
laid S used [] = given []
laid S used (c ∷ cs) = and_then (read S used c) (λ f. and_then (laid S (used + nodes f) cs) (λ fs. given (f ∷ fs)))

-- what comes of a question about rules
abbrev pub answered : List Setting → List Formula → Question → Verdict
answered S rules (walks n) = shown S (walk S rules n)
answered S rules (examines t) = judged (examination S rules t)

-- what comes of a page
abbrev pub played : Worked → Verdict
played w =
    let S : List Setting = map (λ n. record { size = n }) w.sizes in
    elim (laid S 0 w.codes) [ given rules ↦ answered S rules w.question | refused e ↦ refuses e ]

-- n bytes, written as one number, the first byte highest
abbrev pub bytes : ℕ → ℕ → List ℕ
bytes zero w = []
bytes (suc n) w = bytes n (w / 256) ++ w % 256 ∷ []

-- n times the same bytes
abbrev pub repeated : ℕ → List ℕ → List ℕ
repeated zero t = []
repeated (suc n) t = t ++ repeated n t

-- ---- the pages

-- a page by its sizes and codes
abbrev page : List ℕ → List (List ℕ) → Question → Verdict → Worked
page sizes codes question verdict = record { sizes = sizes; codes = codes; question = question; verdict = verdict }

-- no settings, and the rule false
abbrev hopeless : Question → Verdict → Worked
hopeless = page [] (bytes 1 0x02 ∷ [])

-- setting 0 has choice 0, and it has choice 1
abbrev at_odds : Question → Verdict → Worked
at_odds = page (2 ∷ []) (bytes 4 0x03_00_00_00 ∷ bytes 4 0x03_00_00_01 ∷ [])

-- where setting 0 has choice 3, setting 1 has choice 0
abbrev implied : List ℕ
implied = bytes 9 0x03_00_00_03_03_01_00_00_08

-- that, and setting 0 has choice 3, and setting 1 has choice 1
abbrev broken : Question → Verdict → Worked
broken = page (4 ∷ 2 ∷ []) (implied ∷ bytes 4 0x03_00_00_03 ∷ bytes 4 0x03_01_00_01 ∷ [])

-- setting 0 has neither choice 0 nor choice 1
abbrev neither : List ℕ
neither = bytes 10 0x03_00_00_00_03_00_00_01_07_05

-- setting 0 has choice 1 exactly where it has choice 0
abbrev equal : List ℕ
equal = bytes 9 0x03_00_00_01_03_00_00_00_09

-- one rule over setting 0, which has so many choices
abbrev lone : ℕ → List ℕ → Question → Verdict → Worked
lone size code = page (size ∷ []) (code ∷ [])

-- walks, most of them with 2 ^ w - 1 steps allowed for w nodes, which is enough
abbrev pub walked_pages : List Worked
walked_pages =
    page [] [] (walks 0) (ends_found 0 [] []) ∷
    hopeless (walks 1) (ends_none 1 (bytes 3 0x23_00_00)) ∷
    hopeless (walks 0) (ends_spent 0) ∷
    at_odds (walks 2) (ends_none 2 (bytes 8 0x22_00_00_22_00_01_24_00)) ∷
    at_odds (walks 1) (ends_spent 1) ∷
    page (4 ∷ 2 ∷ []) (implied ∷ []) (walks 7) (ends_found 2 ((0 ∷ 1 ∷ 2 ∷ []) ∷ (0 ∷ 1 ∷ []) ∷ []) (0 ∷ 0 ∷ [])) ∷
    broken (walks 31) (ends_none 7 (bytes 25 0x21_00_00_22_00_01_22_00_02_22_00_03_24_00_22_00_01_22_00_02_22_00_03_24_01)) ∷
    lone 2 neither (walks 15) (ends_none 4 (bytes 14 0x20_00_00_20_00_01_22_00_02_22_00_03_24_00)) ∷
    lone 3 neither (walks 15) (ends_found 4 ((2 ∷ []) ∷ []) (2 ∷ [])) ∷
    lone 3 equal (walks 7) (ends_found 5 ((2 ∷ []) ∷ []) (2 ∷ [])) ∷ []

-- each connective with each sign, and what a range keeps and loses: which side comes first shows in the sets, the steps
-- or the tape
abbrev pub connective_pages : List Worked
connective_pages =
    lone 2 (bytes 6 0x02_03_00_00_00_06) (walks 7) (ends_none 2 (bytes 6 0x20_00_00_23_00_01)) ∷
    lone 2 (bytes 7 0x03_00_00_00_02_06_05) (walks 15) (ends_found 3 ((1 ∷ []) ∷ []) (1 ∷ [])) ∷
    lone 2 (bytes 6 0x03_00_00_00_01_07) (walks 7) (ends_found 2 ((0 ∷ []) ∷ []) (0 ∷ [])) ∷
    lone 2 (bytes 7 0x01_03_00_00_00_07_05) (walks 15) (ends_none 3 (bytes 9 0x20_00_00_20_00_01_23_00_02)) ∷
    lone 2 (bytes 6 0x03_00_00_00_01_08) (walks 7) (ends_found 2 ((1 ∷ []) ∷ []) (1 ∷ [])) ∷
    lone 2 (bytes 7 0x02_03_00_00_00_08_05) (walks 15) (ends_none 3 (bytes 9 0x20_00_00_20_00_01_23_00_02)) ∷
    page [] (bytes 3 0x02_01_09 ∷ []) (walks 7) (ends_none 4 (bytes 9 0x21_00_00_23_00_01_23_00_02)) ∷
    page [] (bytes 4 0x01_01_09_05 ∷ []) (walks 15) (ends_none 5 (bytes 12 0x20_00_00_21_00_01_23_00_03_23_00_02)) ∷
    lone 4 (bytes 6 0x04_00_00_01_00_02) (walks 1) (ends_found 1 ((1 ∷ 2 ∷ []) ∷ []) (1 ∷ [])) ∷
    lone 4 (bytes 7 0x04_00_00_01_00_02_05) (walks 3) (ends_found 2 ((0 ∷ 3 ∷ []) ∷ []) (0 ∷ [])) ∷ []

-- tapes: a tableau that splits last, each fault at the tape's start or behind a command, and where two faults meet the
-- one that counts
abbrev pub examined_pages : List Worked
examined_pages =
    broken (examines (bytes 19 0x22_00_01_22_00_02_21_00_00_22_00_03_24_00_22_00_03_24_01)) (accepts 7) ∷
    hopeless (examines (bytes 4 0x23_00_00_00)) (refuses (tape_fault TrailingByte 3)) ∷
    hopeless (examines (bytes 1 0x25)) (refuses (tape_fault UnknownCommand 0)) ∷
    at_odds (examines (bytes 4 0x22_00_00_25)) (refuses (tape_fault UnknownCommand 3)) ∷
    hopeless (examines (bytes 2 0x23_01)) (refuses (tape_fault CutShort 0)) ∷
    at_odds (examines (bytes 5 0x22_00_00_22_00)) (refuses (tape_fault CutShort 3)) ∷
    at_odds (examines (bytes 4 0x22_00_00_24)) (refuses (tape_fault CutShort 3)) ∷
    hopeless (examines (bytes 3 0x23_00_01)) (refuses (tape_fault NotThere 0)) ∷
    hopeless (examines (bytes 2 0x24_00)) (refuses (tape_fault NotThere 0)) ∷
    at_odds (examines (bytes 6 0x22_00_00_22_00_02)) (refuses (tape_fault NotThere 3)) ∷
    at_odds (examines (bytes 5 0x22_00_00_24_01)) (refuses (tape_fault NotThere 3)) ∷
    hopeless (examines (bytes 3 0x22_00_00)) (refuses (tape_fault Misfit 0)) ∷
    at_odds (examines (bytes 5 0x22_00_00_24_00)) (refuses (tape_fault SetNotEmpty 3)) ∷
    at_odds (examines (repeated 1025 (bytes 3 0x22_00_00))) (refuses (tape_fault BranchFull 3072)) ∷
    lone 2 neither (examines (repeated 1024 (bytes 3 0x20_00_00))) (refuses (tape_fault BranchFull 3069)) ∷
    lone 2 neither (examines (repeated 1023 (bytes 3 0x20_00_00) ++ bytes 3 0x21_00_00)) (refuses (tape_fault Misfit 3069)) ∷
    hopeless (examines []) (refuses (tape_fault BranchOpen 0)) ∷
    at_odds (examines (bytes 3 0x22_00_00)) (refuses (tape_fault BranchOpen 3)) ∷ []

abbrev pub worked_pages : List Worked
worked_pages = walked_pages ++ (connective_pages ++ examined_pages)

-- each page comes out as listed
abbrev pub WorkedPagesComeOut : Type 0
WorkedPagesComeOut = map played worked_pages ≡ map (λ w. w.verdict) worked_pages
