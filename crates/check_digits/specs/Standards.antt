-- The check symbols of the standards. Places are counted from the right; that of the check symbol is 0.
use Rattle.std.specs.Prelude.{ℕ, zero, suc, ◌+◌, ◌%◌, ◌^◌, ◌==◌, if◌then◌else◌, List, [], ◌∷◌}
use Rattle.check_digits.specs.Codes.{CheckCode}

-- f (n - 1), .., f 1, f 0
unfoldable pub from_right : ℕ → (ℕ → ℕ) → List ℕ
from_right zero f = []
from_right (suc n) f = f n ∷ from_right n f

-- n digits whose sum with the weights 1, 3, 1, 3, .. is 0 modulo 10 (GS1 General Specifications, section 7.9.1)
abbrev pub gs1 : ℕ → CheckCode
gs1 n = record {
  modulus = 10;
  residue = 0;
  weights = from_right n (λ j. if j % 2 == 0 then 1 else 3);
  least = from_right n (λ j. 0);
  greatest = from_right n (λ j. 9);
}

-- n symbols whose sum with the weights 1, 2, 3, .. is 0 modulo 11; the check symbol is a digit or X, which is 10,
-- and the others are digits
abbrev pub modulo_11 : ℕ → CheckCode
modulo_11 n = record {
  modulus = 11;
  residue = 0;
  weights = from_right n (λ j. j + 1);
  least = from_right n (λ j. 0);
  greatest = from_right n (λ j. if j == 0 then 10 else 9);
}

-- n digits that form a number that is 1 modulo 97 (ISO/IEC 7064:2003, MOD 97-10)
abbrev pub mod_97_10 : ℕ → CheckCode
mod_97_10 n = record {
  modulus = 97;
  residue = 1;
  weights = from_right n (λ j. 10 ^ j % 97);
  least = from_right n (λ j. 0);
  greatest = from_right n (λ j. 9);
}

-- sixteen symbols whose sum with the weights 1, 2, 4, .. is 1 modulo 11; the check symbol is a digit or X, which is 10,
-- and the others are digits (ISO/IEC 7064:2003, MOD 11-2, for ORCID and for ISNI, ISO 27729)
abbrev pub orcid : CheckCode
orcid = record {
  modulus = 11;
  residue = 1;
  weights = from_right 16 (λ j. 2 ^ j % 11);
  least = from_right 16 (λ j. 0);
  greatest = from_right 16 (λ j. if j == 0 then 10 else 9);
}

-- nine digits whose sum with the weights 1, 7, 3, 1, 7, 3, .. is 0 modulo 10 (routing numbers of the American Bankers
-- Association)
abbrev pub aba_rtn : CheckCode
aba_rtn = record {
  modulus = 10;
  residue = 0;
  weights = from_right 9 (λ j. if j % 3 == 0 then 1 else if j % 3 == 1 then 7 else 3);
  least = from_right 9 (λ j. 0);
  greatest = from_right 9 (λ j. 9);
}

-- ISBN of ten symbols (ISO 2108, first to third edition)
abbrev pub isbn_10 : CheckCode
isbn_10 = modulo_11 10

-- ISSN (ISO 3297:2022)
abbrev pub issn : CheckCode
issn = modulo_11 8

-- GTIN-13 (GS1 General Specifications)
abbrev pub ean_13 : CheckCode
ean_13 = gs1 13

-- GTIN-8 (GS1 General Specifications)
abbrev pub ean_8 : CheckCode
ean_8 = gs1 8

-- GTIN-12 (GS1 General Specifications)
abbrev pub upc_a : CheckCode
upc_a = gs1 12

-- ISBN of thirteen digits: a GTIN-13 that begins with 978 or 979 (ISO 2108:2017)
abbrev pub isbn_13 : CheckCode
isbn_13 = record ean_13 {
  least = 9 ∷ 7 ∷ 8 ∷ from_right 10 (λ j. 0);
  greatest = 9 ∷ 7 ∷ 9 ∷ from_right 10 (λ j. 9);
}
