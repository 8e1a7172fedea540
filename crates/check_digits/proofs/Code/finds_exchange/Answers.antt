use Rattle.std.proofs.Common.{◌≡◌, ℕ, suc, List, ◌+◌, ◌*◌, ◌%◌, pos, ◌-ℤ◌, add-one, arith, get_or}
use Rattle.num_modular.specs.NumberLaws.{difference_and}
use Rattle.num_modular.specs.Residues.{residue}
use Rattle.check_digits.specs.Codes.{code_of}
use Rattle.check_digits.proofs.CheckSums.{unit_finds}
use Rattle.check_digits.proofs.Codewords.{exchange_told, test_detects_changed_word}
use Rattle.check_digits.proofs.Code.finds_exchange.Goals as goal

-- the product is that of the clauses, whose next place is a successor
is_product : (m : ℕ) (ws xs : List ℕ) (p e d v : ℕ) → e ≡ residue m (pos (get_or ws p 0) -ℤ pos (get_or ws (p + 1) 0))
    → d ≡ residue m (pos (get_or xs (p + 1) 0) -ℤ pos (get_or xs p 0)) → v ≡ (e * d) % m
    → v ≡ (residue m (pos (get_or ws p 0) -ℤ pos (get_or ws (suc p) 0))
    * residue m (pos (get_or xs (suc p) 0) -ℤ pos (get_or xs p 0))) % m
is_product m ws xs p e d v weights symbols product = search (arith, add-one)

pub returns : goal.returns
returns c =
    let code = code_of c.args.self.now in
    let both = test_detects_changed_word _ _ (is_product code.modulus code.weights c.args.word.now c.args.place _ _ _
    c.subm-weight.ensures
    c.subm-difference.ensures c.mulm-product.ensures) c.is_found.ensures c.fit_exchanged.ensures
    (exchange_told code c.args.word.now c.args.place c.args.self.now.positive c.requires.accepted c.requires.within) in
    record {
      refused = both.0;
      product = both.1;
      unit = λ inverse apart. both.1.1
          (λ _. unit_finds _ _ _ _ _ inverse (difference_and code.modulus _ _ c.args.self.now.positive) apart);
    }
