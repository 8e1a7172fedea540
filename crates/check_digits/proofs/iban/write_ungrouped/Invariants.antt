use Rattle.std.proofs.Common.{◌≡◌, length, take}
use Rattle.check_digits.specs.Ibans.{without_spaces}
use Rattle.check_digits.proofs.iban.write_ungrouped.Given as goal

-- the characters so far
abbrev pub invariant-characters : goal.invariant-characters
invariant-characters l = record {
  end : l.end ≡ length (without_spaces (take l.c-index l.text));
  same : length l.characters ≡ length l.initial.characters;
  characters : take l.end l.characters ≡ without_spaces (take l.c-index l.text);
}
