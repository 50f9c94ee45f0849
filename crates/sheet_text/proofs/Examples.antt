-- Lines at the ends of their ranges, byte for byte: two digits, the largest u32, the smallest i32 and the unknown record. 01's nine
-- lines are shown of the whole sheet (starred/proofs/Sheet.antt).
use mathlib.Core.Path.{◌≡◌, refl}
use lib.IntN.{pos, negsuc}
use Rattle.codec.specs.Decimal.{digits_within, decimal, minus, signed_decimal}
use Rattle.sheet_text.specs.Text.{ascii}
use Rattle.sheet_text.specs.Lines.{refused_word, unknown_word, space, line_feed, word_line, refused_line, record_text, record_line}

pub refused_eleven : refused_line 11 ≡ ascii "refused 11\n"
unfolding digits_within decimal refused_word line_feed word_line
refused_eleven = refl

pub largest : decimal 4294967295 ≡ ascii "4294967295"
unfolding digits_within decimal
largest = refl

pub smallest : record_line 63 1 (negsuc 2147483647) ≡ ascii "63 -2147483648\n"
unfolding digits_within decimal minus signed_decimal unknown_word space line_feed record_text record_line
smallest = refl

pub unknown : record_line 63 0 (pos 0) ≡ ascii "63 unknown\n"
unfolding digits_within decimal minus signed_decimal unknown_word space line_feed record_text record_line
unknown = refl
