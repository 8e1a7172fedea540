use Rattle.std.proofs.Common.{◌≡◌, ◌+◌, ◌*◌, ◌≤◌, ◌++◌, length, take}
use Rattle.std.specs.List.{flat_map}
use Rattle.check_digits.specs.Ibans.{digits_of}
use Rattle.check_digits.proofs.iban.write_text.Given as goal

-- the digits of the characters so far
abbrev pub invariant-characters : goal.invariant-characters
invariant-characters l = record {
  room : l.end ≤ l.start + 2 * l.c-index;
  same : length l.digits ≡ length l.initial.digits;
  digits : take l.end l.digits ≡ take l.start l.initial.digits ++ flat_map digits_of (take l.c-index l.text);
}
