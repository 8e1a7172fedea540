use Rattle.std.proofs.Common.{arith, ◌≡◌, ℕ, suc, ◌∷◌, ◌+◌, [], add-one, sym, subst, slice_index}
use Rattle.std.specs.Fmt.{decimal}
use Rattle.std.specs.Io.KnownBytes.{Appends}
use Rattle.modular_ring.specs.Ring.{values_of}
use Rattle.num_modular.specs.Program.{numbers_to}
use Rattle.num_modular.proofs.ProgramLemmas.{appends_more, if_ok}
use Rattle.num_modular.proofs.modrun.write_residues.Goals as goal

pub rest-preserved : goal.rest-preserved
rest-preserved g c =
    let v : ℕ → ℕ = λ r. slice_index
    (values_of (λ f. f) g.R.Reducer.value (g.R.Reducer.modulus c.args.reducer.now) c.args.registers.now) r in
    let start = g.O.Write.contents c.args.out.now in
    let before = g.O.Write.contents c.rest.out in
    let after = g.O.Write.contents c.write-in-rest.new.self in
    let written : Appends before after (32 ∷ decimal (v (c.rest.index + 1))) =
    subst (λ n. Appends before after (32 ∷ decimal n)) c.residue_at-in-rest.ensures c.in_ok-write-2.ensures.bytes in
    let next : Appends before after (32 ∷ decimal (v (suc c.rest.index))) =
    subst (λ i. Appends before after (32 ∷ decimal (v i))) (add-one c.rest.index) written in
    subst (λ i. Appends start after (numbers_to v i)) (sym (add-one c.rest.index))
    (appends_more start before after (numbers_to v c.rest.index) _ c.rest.invariant next)

pub returns : goal.returns
returns g c =
    let v : ℕ → ℕ = λ r. slice_index
    (values_of (λ f. f) g.R.Reducer.value (g.R.Reducer.modulus c.args.reducer.now) c.args.registers.now) r in
    let start = g.O.Write.contents c.args.out.now in
    let before = g.O.Write.contents c.rest.out in
    let after = g.O.Write.contents c.writeln.new.self in
    let all : c.rest.index ≡ 7 = omega arith in
    let held : Appends start before (numbers_to v 7) =
    subst (λ i. Appends start before (numbers_to v i)) all c.rest.invariant in
    if_ok c.writeln.result _ _ c.writeln.ensures.bytes
    (λ x ended. appends_more start before after (numbers_to v 7) (10 ∷ []) held ended)
