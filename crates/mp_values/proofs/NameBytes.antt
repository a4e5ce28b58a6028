-- A name is ASCII.
use Rattle.std.proofs.Common.{◌≡◌, ℕ, ◌<◌, true, List, length, get_or, arith, inl, inr}
use Rattle.std.specs.Str.{IsUtf8, IsAscii}
use Rattle.std.specs.List.{list_all}
use Rattle.std.proofs.lemmas.Bool.{and_parts, cases_lt}
use Rattle.std.proofs.lemmas.Bool.Decides.{nat_tests}
use Rattle.std.proofs.lemmas.List.{get_or_past}
use Rattle.std.proofs.lemmas.List.Sums.{AllPass-from_list_all}
use Rattle.std.proofs.lemmas.Str.{IsUtf8-from_ascii}
use Rattle.mp_values.specs.Values.{is_name, is_line_byte}

line_byte_small : (b : ℕ) → is_line_byte b ≡ true → b < 128
line_byte_small b is = grind (arith, nat_tests)

pub ascii_line : (text : List ℕ) → list_all is_line_byte text ≡ true → IsAscii text
ascii_line text all i = elim (cases_lt i (length text)) [
  | inl within ↦ line_byte_small (get_or text i 0) (AllPass-from_list_all is_line_byte text all i 0 within)
  | inr past ↦ omega (arith, get_or_past text i 0 past)
]

pub name_utf8 : (text : List ℕ) → is_name text ≡ true → IsUtf8 text
name_utf8 text is = IsUtf8-from_ascii text (ascii_line text (and_parts _ _ (and_parts _ _ is).1).0)
