use Rattle.std.proofs.Common.{◌≡◌, length, take}
use Rattle.check_digits.specs.Texts.{symbols_of}
use Rattle.check_digits.proofs.texts.read_symbols.Given as goal

-- the symbols so far
abbrev pub invariant-characters : goal.invariant-characters
invariant-characters l = record {
  end : l.end ≡ length (symbols_of (take l.c-index l.text));
  same : length l.symbols ≡ length l.initial.symbols;
  symbols : take l.end l.symbols ≡ symbols_of (take l.c-index l.text);
}
