use Rattle.std.proofs.Common.{◌≡◌, ◌<◌, ◌%◌, List, ℕ, length, map, get_or, arith, ap, sym, ◌∙◌}
use Rattle.std.proofs.lemmas.Grind.{same_number_lists}
use Rattle.std.proofs.lemmas.List.{get_or-map, length-map, length-take-le, take-map}
use Rattle.num_modular.specs.declared.ring.RingCommand.{RingCommand}
use Rattle.num_modular.specs.Ring.{values_of}
use Rattle.residue_numbers.proofs.Runs.{start_mod}
use Rattle.residue_numbers.proofs.Columns.{over_whole, carried_by_end, carried_prefix, value_prefix, register_word}
use Rattle.residue_numbers.proofs.mixed_radix.System.run_column.Goals as goal

pub returns : goal.returns
returns g c =
    let ring = g.R.Reducer in let reducer = c.index-reducers-place in let m : ℕ = ring.modulus reducer.result in
    let ms : List ℕ = c.args.self.now.moduli.now in let forms : List ℕ = c.load_column.new.forms in
    let n = length ms in let place : ℕ = c.args.place in let inputs : List ℕ = c.args.inputs.now in
    let f = over_whole g.C.AsCommand.command in let commands : List (RingCommand ℕ) = map f c.args.commands.now in
    let values = values_of (λ f. f) ring.value m forms in
    let part = take-map f c.args.count c.args.commands.now in
    let count : length c.args.reducers.now ≡ n = sym (length-map c.args.reducers.now ring.modulus)
    ∙ ap length c.requires.reducers in
    let modulus : m ≡ get_or ms place 0 = ap ring.modulus reducer.is
    ∙ sym (get_or-map ring.modulus c.args.reducers.now place _ 0 (omega (arith, count, c.requires.within)))
    ∙ ap (λ ms. get_or ms place 0) c.requires.reducers in
    let long = length-map _ _ ∙ length-take-le c.args.count c.args.commands.now c.requires.count in
    let (carried, most, same) = carried_by_end _ _ _ _ c.args.count _ long
    c.run-end.ensures.stops c.run-end.ensures.done c.carried_by.ensures.done c.carried_by.ensures.stopped in record {
      most = most;
      run = λ start entries with.
          let entered = c.load_column.auto.forms ∙ sym entries in
          let started : values ≡ start_mod m start =
          same_number_lists values (start_mod m start) (simp length-map entered) (λ r h.
          let k : r < length start = let e = length-map forms (λ f. ring.value m f) in omega (arith, h, e, entered) in
          c.load_column.ensures.values r (omega (arith, k, entries))
          ∙ rw modulus (ap (λ w. w % get_or ms place 0) (sym (register_word n inputs r place c.requires.within))
          ∙ (with.each r k).each place c.requires.within) ∙ sym (get_or-map (λ n. n % m) start r 0 0 k)) in record {
            carried =
                rw (← modulus, ← started) (carried_prefix m values commands c.args.count _ most (rw part carried));
            values = λ r h.
                let within : r < length forms = omega (arith, h, entries, c.load_column.auto.forms) in
                let written = c.unload_column.ensures.written r (omega (arith, within, c.run-end.auto.regs)) in
                rw (← modulus, ← started) (written ∙ c.run-end.ensures.residues r within
                ∙ rw (same, ← part) (value_prefix m values commands c.args.count _ most r));
          };
      kept = search arith;
    }
