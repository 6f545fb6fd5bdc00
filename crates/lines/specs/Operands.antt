-- What a word is read as: a byte, or a number; and so a row of words.
use Rattle.std.specs.Prelude.{ℕ, ◌+◌, ◌-◌, ◌*◌, if◌then◌else◌, ◌&&◌, List, [], ◌∷◌, Some, None, Option, nat_lt}
use Rattle.std.specs.Option.{option_map}
use Rattle.std.specs.Int.{is_in_range}
use Rattle.std.specs.Str.{all_ascii_digits}

-- the value of a hexadecimal digit: 0 to 9, a to f, A to F
abbrev pub digit_of : ℕ → Option ℕ
digit_of c =
    if is_in_range 48 57 c then Some (c - 48)
    else if is_in_range 97 102 c then Some (c - 87)
    else if is_in_range 65 70 c then Some (c - 55)
    else None

-- the byte of two digits, if both are there
abbrev pub byte_from : Option ℕ → Option ℕ → Option ℕ
byte_from None low = None
byte_from (Some h) None = None
byte_from (Some h) (Some l) = Some (16 * h + l)

-- a byte is a word of exactly two hexadecimal digits
abbrev pub byte_of : List ℕ → Option ℕ
byte_of [] = None
byte_of (h ∷ []) = None
byte_of (h ∷ l ∷ []) = byte_from (digit_of h) (digit_of l)
byte_of (h ∷ l ∷ c ∷ cs) = None

-- the number that decimal digits give behind those read so far
abbrev pub read_on : ℕ → List ℕ → ℕ
read_on n [] = n
read_on n (c ∷ cs) = read_on (10 * n + (c - 48)) cs

-- a number is a word of one or more decimal digits, and fits 16 bits
abbrev pub number_of : List ℕ → Option ℕ
number_of [] = None
number_of (c ∷ cs) = if all_ascii_digits (c ∷ cs) && nat_lt (read_on 0 (c ∷ cs)) 65536 then Some (read_on 0 (c ∷ cs)) else None

-- an item in front of the others, if both are there
abbrev pub before : {X : Type 0} → Option X → Option (List X) → Option (List X)
before None others = None
before (Some x) others = option_map (λ xs. x ∷ xs) others

-- what each word is read as, if each can be read
abbrev pub each_of : {X : Type 0} → (List ℕ → Option X) → List (List ℕ) → Option (List X)
each_of value [] = Some []
each_of value (w ∷ ws) = before (value w) (each_of value ws)
