-- The steps of a join in place: pairs and fours of entries, which undo those of a split but for a factor (Gentleman
-- and Sande, "Fast Fourier transforms: for fun and profit", section 2). The names are the library's own words.
use Rattle.std.specs.Prelude.{ℕ, ◌+◌, ◌*◌}
use Rattle.modular_word.specs.Congruence.{Congruent}

-- a and b become a + b, and (a - b) divided by w
pub record IsPairJoin (m w a b sum quotient : ℕ) : Type 0 where
  pub summed : Congruent m sum (a + b)
  pub subtracted : Congruent m (quotient * w + b) a

-- a, b, c and d, a quarter of a block apart, are joined by u and by v, and the results by w
pub record IsFourJoin (m w u v a b c d a' b' c' d' : ℕ) : Type 0 where
  pub e : ℕ
  pub f : ℕ
  pub g : ℕ
  pub h : ℕ
  pub low : IsPairJoin m u a b e f
  pub high : IsPairJoin m v c d g h
  pub first : IsPairJoin m w e g a' c'
  pub second : IsPairJoin m w f h b' d'

-- v is minus the inverse of w
pub record IsMinusInverse (m w v : ℕ) : Type 0 where
  pub product : Congruent m (w * v + 1) 0

-- w, u and v are minus the inverses of a, b and c
pub record AreMinusInverses (m a b c w u v : ℕ) : Type 0 where
  pub own : IsMinusInverse m a w
  pub low : IsMinusInverse m b u
  pub high : IsMinusInverse m c v

-- a, b, c and d are joined by all numbers that w, u and v are minus the inverses of
pub record IsJoinByFactors (m w u v a b c d a' b' c' d' : ℕ) : Type 0 where
  pub each : (x y z : ℕ) → AreMinusInverses m x y z w u v → IsFourJoin m x y z a b c d a' b' c' d'

-- a, b, c and d are joined by 1, by 1 and by a number that v is minus the inverse of, and multiplied by s
pub record IsLastJoin (m v s a b c d a' b' c' d' : ℕ) : Type 0 where
  pub each : (w : ℕ) → IsMinusInverse m w v → IsFourJoin m 1 1 w (a * s) (b * s) (c * s) (d * s) a' b' c' d'
