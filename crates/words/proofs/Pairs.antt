-- Bytes read pair by pair.
use Rattle.std.proofs.Common.{◌≡◌, ℕ, zero, suc, ◌+◌, ◌*◌, ◌<◌, ◌≤◌, List, [], ◌∷◌, ◌++◌, length, get_or, drop, Some, None, Option, sym, refl, ap, ◌∙◌, arith}
use Rattle.std.specs.Simd.{first_chunks}
use Rattle.std.proofs.lemmas.List.{at_drop_more, at_drop_all, append_assoc, append-nil}
use Rattle.words.specs.Hex.{byte, behind_all, behind_one, pairs}

-- the bytes that pairs of digits write
abbrev pub of_pairs : List (List ℕ) → Option (List ℕ)
of_pairs [] = Some []
of_pairs (p ∷ ps) = behind_one (byte (get_or p 0 0) (get_or p 1 0)) (of_pairs ps)

-- as many digits as k pairs have
pairs_even : (k : ℕ) (cs : List ℕ) → length cs ≡ k * 2 → pairs cs ≡ of_pairs (first_chunks 2 k cs)
pairs_even zero [] h = refl
pairs_even zero (c ∷ cs) h = absurd (omega arith)
pairs_even (suc k) [] h = absurd (omega arith)
pairs_even (suc k) (c ∷ []) h = absurd (omega arith)
pairs_even (suc k) (c ∷ (d ∷ cs)) h = ap (behind_one (byte c d)) (pairs_even k cs (omega arith))

behind_nothing : (o : Option ℕ) → behind_one o None ≡ None
behind_nothing None = refl
behind_nothing (Some b) = refl

-- a digit left over
pub pairs_odd : (k : ℕ) (cs : List ℕ) → length cs ≡ k * 2 + 1 → pairs cs ≡ None
pairs_odd k [] h = absurd (omega arith)
pairs_odd k (c ∷ []) h = refl
pairs_odd zero (c ∷ (d ∷ cs)) h = absurd (omega arith)
pairs_odd (suc k) (c ∷ (d ∷ cs)) h = ap (behind_one (byte c d)) (pairs_odd k cs (omega arith)) ∙ behind_nothing (byte c d)

behind_no : (o : Option (List ℕ)) → behind_all [] o ≡ o
behind_no None = refl
behind_no (Some more) = refl

-- at the start all pairs are left
pub pairs_start : (k : ℕ) (cs : List ℕ) → length cs ≡ k * 2 → behind_all [] (of_pairs (first_chunks 2 k cs)) ≡ pairs cs
pairs_start k cs h = behind_no (of_pairs (first_chunks 2 k cs)) ∙ sym (pairs_even k cs h)

one_more : (bs : List ℕ) (b : ℕ) (o : Option (List ℕ)) → behind_all bs (behind_one (Some b) o) ≡ behind_all (bs ++ (b ∷ [])) o
one_more bs b None = refl
one_more bs b (Some more) = ap Some (sym (append_assoc bs (b ∷ []) more))

-- the next pair goes behind the bytes so far
module _ (ps : List (List ℕ)) (i : ℕ) (bs : List ℕ) where
  pair_at : i < length ps → (o : Option ℕ) → o ≡ byte (get_or (get_or ps i []) 0 0) (get_or (get_or ps i []) 1 0) → behind_all bs (of_pairs (drop i ps)) ≡ behind_all bs (behind_one o (of_pairs (drop (i + 1) ps)))
  pair_at inside o e = ap (behind_all bs) (at_drop_more of_pairs ps i [] inside ∙ ap (λ x. behind_one x (of_pairs (drop (i + 1) ps))) (sym e))

  pub pair_some : i < length ps → (b : ℕ) → Some b ≡ byte (get_or (get_or ps i []) 0 0) (get_or (get_or ps i []) 1 0) → behind_all bs (of_pairs (drop i ps)) ≡ behind_all (bs ++ (b ∷ [])) (of_pairs (drop (i + 1) ps))
  pair_some inside b e = pair_at inside (Some b) e ∙ one_more bs b (of_pairs (drop (i + 1) ps))

  pub pair_none : i < length ps → None ≡ byte (get_or (get_or ps i []) 0 0) (get_or (get_or ps i []) 1 0) → behind_all bs (of_pairs (drop i ps)) ≡ None
  pair_none inside e = pair_at inside None e

  pub pairs_end : length ps ≤ i → behind_all bs (of_pairs (drop i ps)) ≡ Some bs
  pairs_end past = ap (behind_all bs) (at_drop_all of_pairs ps i past) ∙ ap Some (append-nil bs)
