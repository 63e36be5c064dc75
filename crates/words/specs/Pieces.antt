-- Bytes cut at a mark: at newlines into lines, at spaces into words.
--
--   before b bs   the bytes before the first b; all of them, where there is none
--   beyond b bs   the bytes behind the first b; none, where there is none
--   pieces b bs   the pieces of bs between one b and the next; a b at the end ends the last piece, and begins none
use Rattle.std.specs.Prelude.{ℕ, cond, List, [], ◌∷◌, ◌==◌}

abbrev pub before : ℕ → List ℕ → List ℕ
before b [] = []
before b (c ∷ cs) = cond (c == b) [] (c ∷ before b cs)

abbrev pub beyond : ℕ → List ℕ → List ℕ
beyond b [] = []
beyond b (c ∷ cs) = cond (c == b) cs (beyond b cs)

-- one more byte at the front of the first piece
abbrev pub onto_first : ℕ → List (List ℕ) → List (List ℕ)
onto_first c [] = (c ∷ []) ∷ []
onto_first c (p ∷ ps) = (c ∷ p) ∷ ps

abbrev pub pieces : ℕ → List ℕ → List (List ℕ)
pieces b [] = []
pieces b (c ∷ cs) = cond (c == b) ([] ∷ pieces b cs) (onto_first c (pieces b cs))
