use Rattle.std.proofs.Common.{rules}
use Rattle.test_callers.proofs.normalized.by_the_least_divisor.Goals as goal

pub new-divider-requires : goal.new-divider-requires
new-divider-requires c = search rules
