-- What a line is read as.
use Rattle.std.specs.Prelude.{ℕ, if◌then◌else◌, List, [], ◌∷◌, Some, None, codes, Option, ◌==◌, slice_index}
use Rattle.std.specs.Option.{option_map}
use Rattle.std.specs.Str.{bytes_eq}
use Rattle.lines.specs.declared.calls.Expected.{Expected}
use Rattle.lines.specs.declared.calls.Expected.TheVariants.{Call, Declare, Lay, Write, Judge}
use Rattle.lines.specs.Calls.{Request, declare, lay, write, judge, Meaning, blank, a_call, not_a_call}
use Rattle.lines.specs.Operands.{byte_of, number_of, each_of}
use Rattle.lines.specs.Words.{words_of}

-- declare SIZE
abbrev pub declare_of : List (List ℕ) → Option Request
declare_of [] = None
declare_of (size ∷ []) = option_map declare (number_of size)
declare_of (size ∷ w ∷ ws) = None

-- lay BYTE BYTE ..
abbrev pub lay_of : List (List ℕ) → Option Request
lay_of ws = option_map lay (each_of byte_of ws)

-- the room to write into, where a line does not say it
abbrev pub default_room : ℕ
default_room = 6144

abbrev pub write_from : Option ℕ → Option ℕ → Option Request
write_from None room = None
write_from (Some rule) room = option_map (write rule) room

-- write RULE, or write RULE ROOM
abbrev pub write_of : List (List ℕ) → Option Request
write_of [] = None
write_of (rule ∷ []) = write_from (number_of rule) (Some default_room)
write_of (rule ∷ room ∷ []) = write_from (number_of rule) (number_of room)
write_of (rule ∷ room ∷ w ∷ ws) = None

-- judge CHOICE CHOICE ..
abbrev pub judge_of : List (List ℕ) → Option Request
judge_of ws = option_map judge (each_of number_of ws)

-- the request, or else what was expected
abbrev pub read_as : Expected → Option Request → Meaning
read_as e None = not_a_call e
read_as e (Some r) = a_call r

-- what the first word and its operands say
abbrev pub call_of : List ℕ → List (List ℕ) → Meaning
call_of name ws =
    if bytes_eq name (codes "declare") then read_as Declare (declare_of ws)
    else if bytes_eq name (codes "lay") then read_as Lay (lay_of ws)
    else if bytes_eq name (codes "write") then read_as Write (write_of ws)
    else if bytes_eq name (codes "judge") then read_as Judge (judge_of ws)
    else read_as Call None

-- a first word that begins with # makes the line a remark
abbrev pub words_say : List (List ℕ) → Meaning
words_say [] = blank
words_say (w ∷ ws) = if slice_index w 0 == 35 then blank else call_of w ws

abbrev pub line_of : List ℕ → Meaning
line_of line = words_say (words_of line)
