use Rattle.std.proofs.lemmas.Bool.{false≢true}
use Rattle.num_modular.specs.Callers.{◌∙◌, sym, refl, arith, values_below}
use Rattle.ring_codes.proofs.RootPowers.{powers_fit}
use Rattle.ring_codes.proofs.KnownRoots.{suits_known}
use Rattle.ring_erasures.proofs.RestoredWords.{products_tell, restored_word}
use Rattle.ring_erasures.proofs.pattern.ErasurePattern.restore.Goals as goal

pub is_codeword_by_transform-requires-clause-suits : goal.is_codeword_by_transform-requires-clause-suits
is_codeword_by_transform-requires-clause-suits g c =
    rw (c.multiply_kept.auto.products ∙ c.split_at_mut-products.ensures.front_len)
    (suits_known _ _ _ c.args.self.now.suits)

pub encode_derivative-requires-clause-suits : goal.encode_derivative-requires-clause-suits
encode_derivative-requires-clause-suits g c =
    rw (c.multiply_kept.auto.products ∙ c.split_at_mut-products.ensures.front_len)
    (suits_known _ _ _ c.args.self.now.suits)

pub encode_derivative-requires-clause-some : goal.encode_derivative-requires-clause-some
encode_derivative-requires-clause-some g c =
    let some = c.args.self.now.some in let size = c.split_at_mut-coefficients.ensures.front_len in
    omega (arith, some, size, c.is_codeword_by_transform.auto.message)

pub returns-then-not-is_codeword_by_transform-clause-restorable
    : goal.returns-then-not-is_codeword_by_transform-clause-restorable
returns-then-not-is_codeword_by_transform-clause-restorable g c points powers =
    let self = c.args.self.now in let front = c.split_at_mut-products.ensures.front_len in
    let fit = powers_fit _ _ _ points self.odd (suits_known _ _ _ self.suits) powers in
    let count = c.multiply_kept.auto.products ∙ front in
    let tells = products_tell _ _ _ _ _ _ _ _ (g.met.R.Reducer.canonical self.ring.now).positive fit self.erased
    (self.inverses points powers) (rw front at c.multiply_kept.ensures.products)
    (λ i b. values_below _ _ _ _ c.args.word.now i c.requires.word (omega (arith, b, c.requires.room))) in
    let code = rw (c.split_at_mut-coefficients.ensures.front_len, count, c.if-not-is_codeword_by_transform.true) at
    (c.is_codeword_by_transform.ensures.codeword points (rw count powers)) in
    (λ t. absurd (false≢true t), λ restorable. code.1 (tells.1 restorable))

pub returns-then-not-is_codeword_by_transform-clause-only : goal.returns-then-not-is_codeword_by_transform-clause-only
returns-then-not-is_codeword_by_transform-clause-only g c points other powers codeword agree i l =
    absurd (false≢true ((returns-then-not-is_codeword_by_transform-clause-restorable g c points powers).1
    (other, codeword, agree)))

pub returns-clause-restorable : goal.returns-clause-restorable
returns-clause-restorable g c points powers =
    let self = c.args.self.now in let front = c.split_at_mut-products.ensures.front_len in
    let fit = powers_fit _ _ _ points self.odd (suits_known _ _ _ self.suits) powers in
    let count = c.multiply_kept.auto.products ∙ front in
    let tells = products_tell _ _ _ _ _ _ _ _ (g.met.R.Reducer.canonical self.ring.now).positive fit self.erased
    (self.inverses points powers) (rw front at c.multiply_kept.ensures.products)
    (λ i b. values_below _ _ _ _ c.args.word.now i c.requires.word (omega (arith, b, c.requires.room))) in
    let code = rw (c.split_at_mut-coefficients.ensures.front_len, count) at
    (c.is_codeword_by_transform.ensures.codeword points (rw count powers)) in
    (λ t. tells.0 (code.0 c.if-not-is_codeword_by_transform.false), λ restorable. refl)

pub returns-clause-only : goal.returns-clause-only
returns-clause-only g c points other powers codeword agree i l =
    let self = c.args.self.now in let front = c.split_at_mut-products.ensures.front_len in
    let size = c.split_at_mut-coefficients.ensures.front_len in let count = c.multiply_kept.auto.products ∙ front in
    let encoding = rw (size, count) at
    (c.is_codeword_by_transform.ensures.message c.if-not-is_codeword_by_transform.false points (rw count powers)) in
    let values = rw (c.is_codeword_by_transform.auto.message ∙ size, count) at
    (c.encode_derivative.ensures.encoding points (rw count powers)) in
    (restored_word _ self.k _ points _ _ _ self.lost.now (g.met.R.Reducer.canonical self.ring.now).positive
    (powers_fit _ _ _ points self.odd (suits_known _ _ _ self.suits) powers) self.erased (self.inverses points powers)
    (rw front at c.multiply_kept.ensures.products) codeword.0 _ _ _ (λ i b left. agree i b left ∙ codeword.1.symbol i b)
    encoding values c.write_products.ensures.there).symbol i l ∙ sym (codeword.1.symbol i l)

pub returns-clause-restored : goal.returns-clause-restored
returns-clause-restored g c points powers holds =
    let (other, codeword, agree) = (returns-clause-restorable g c points powers).0 refl in
    let only = returns-clause-only g c points other powers codeword agree in (
      (codeword.0, record { symbol = λ i l. only i l ∙ codeword.1.symbol i l }),
      λ i b left. sym (c.write_products.ensures.there.kept i left),
    )
