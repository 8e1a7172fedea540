-- The sets of lemmas for `using`.
use Rattle.ring_codes.proofs.Names.{below_more, cases_eq, false≢true, get_or-set_other, get_or-set_same, get_or_read}
use Rattle.ring_codes.proofs.Names.{le_refl, length-take-le, slice_index, slice_range, sum_below-same}
use Rattle.ring_codes.proofs.Symbols.{entry_slice, index_tells, joined_length, slice_length}

pub ruleset places_so_far =
    (below_more, cases_eq, false≢true, get_or-set_other, get_or-set_same, get_or_read, index_tells, slice_index)

pub ruleset front_parts = (joined_length, le_refl, length-take-le, slice_index)

pub ruleset row_parts = (entry_slice, slice_length, slice_range, sum_below-same)

pub ruleset refusals = (false≢true)
