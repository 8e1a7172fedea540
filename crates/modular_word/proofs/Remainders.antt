-- How nested remainders go away: the remainder of a sum, of a product and of a power by remainders. A caller names the
-- set `remainders` in `#[tactic(auto, using(modular_word::proofs::Remainders::remainders))]`.
use Rattle.std.proofs.Common.{◌≡◌, ℕ, ◌+◌, ◌%◌, sym}
use Rattle.std.proofs.Math.Nat.{add-mod, mod-add-mod, mod-mod}
use Rattle.std.proofs.lemmas.Nat.{mul-mod_first, mul-mod_second, pow-mod}

pub sum_of_remainders : (a b m : ℕ) → (a % m + b % m) % m ≡ (a + b) % m
sum_of_remainders a b m = sym (add-mod a b m)

-- these, and no more: with a rule for each summand by itself the search stops at its bounds
pub ruleset remainders = (mul-mod_first, mul-mod_second, sum_of_remainders, mod-add-mod, pow-mod)

-- .. and the remainder of a remainder
pub ruleset nested_remainders = (mul-mod_first, mul-mod_second, sum_of_remainders, mod-add-mod, pow-mod, mod-mod)
