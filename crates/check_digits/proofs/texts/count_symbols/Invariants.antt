use Rattle.std.proofs.Common.{◌≡◌, ◌≤◌, length, take}
use Rattle.check_digits.specs.Texts.{symbols_of}
use Rattle.check_digits.proofs.texts.count_symbols.Given as goal

-- the number of symbols so far
abbrev pub invariant-characters : goal.invariant-characters
invariant-characters l = record {
  value : l.count ≡ length (symbols_of (take l.c-index l.text));
  most : l.count ≤ l.c-index;
}
