-- What a last byte does to the bytes without padding.
use Rattle.std.proofs.Common.{◌≡◌, ℕ, Bool, true, false, cond, ◌&&◌, List, [], ◌∷◌, ◌++◌, refl, sym, ap, ◌∙◌}
use Rattle.ups_pdu.specs.Padding.{is_nil, is_padding, is_space, without_trailing, without_padding}

alone : (q : Bool) (p : ℕ) → cond (q && true) [] (p ∷ []) ≡ cond q [] (p ∷ [])
alone true p = refl
alone false p = refl

-- what a push does where nothing is left of it
step : (t : ℕ → Bool) (d q : Bool) (b p : ℕ) (bs w : List ℕ) → w ≡ cond q (without_trailing t bs) (bs ++ p ∷ [])
    → cond (d && is_nil w) [] (b ∷ w) ≡ cond q (cond (d && is_nil (without_trailing t bs)) [] (b ∷ without_trailing t bs)) (b ∷ (bs ++ p ∷ []))
step t d true b p bs w e = ap (λ (x : List ℕ). cond (d && is_nil x) [] (b ∷ x)) e
step t true false b p [] w e = ap (λ (x : List ℕ). cond (is_nil x) [] (b ∷ x)) e
step t true false b p (c ∷ bs) w e = ap (λ (x : List ℕ). cond (is_nil x) [] (b ∷ x)) e
step t false false b p bs w e = ap (λ (x : List ℕ). b ∷ x) e

without_trailing-push : (t : ℕ → Bool) (bs : List ℕ) (p : ℕ) → without_trailing t (bs ++ p ∷ []) ≡ cond (t p) (without_trailing t bs) (bs ++ p ∷ [])
without_trailing-push t [] p = alone (t p) p
without_trailing-push t (b ∷ bs) p = step t (t b) (t p) b p bs (without_trailing t (bs ++ p ∷ [])) (without_trailing-push t bs p)

goes : (t : ℕ → Bool) (bytes front : List ℕ) (last : ℕ) → bytes ≡ front ++ last ∷ [] → t last ≡ true → without_trailing t bytes ≡ without_trailing t front
goes t bytes front last e p = ap (without_trailing t) e ∙ without_trailing-push t front last ∙ ap (λ (q : Bool). cond q (without_trailing t front) (front ++ last ∷ [])) p

stays : (t : ℕ → Bool) (bytes front : List ℕ) (last : ℕ) → bytes ≡ front ++ last ∷ [] → t last ≡ false → without_trailing t bytes ≡ bytes
stays t bytes front last e p = ap (without_trailing t) e ∙ without_trailing-push t front last ∙ ap (λ (q : Bool). cond q (without_trailing t front) (front ++ last ∷ [])) p ∙ sym e

pub padding_goes : (bytes front : List ℕ) (last : ℕ) → bytes ≡ front ++ last ∷ [] → is_padding last ≡ true → without_padding bytes ≡ without_padding front
padding_goes bytes front last e p = goes is_padding bytes front last e p

pub others_stay : (bytes front : List ℕ) (last : ℕ) → bytes ≡ front ++ last ∷ [] → is_padding last ≡ false → without_padding bytes ≡ bytes
others_stay bytes front last e p = stays is_padding bytes front last e p

pub space_goes : (bytes front : List ℕ) (last : ℕ) → bytes ≡ front ++ last ∷ [] → is_space last ≡ true → without_trailing is_space bytes ≡ without_trailing is_space front
space_goes bytes front last e p = goes is_space bytes front last e p

pub no_space_stays : (bytes front : List ℕ) (last : ℕ) → bytes ≡ front ++ last ∷ [] → is_space last ≡ false → without_trailing is_space bytes ≡ bytes
no_space_stays bytes front last e p = stays is_space bytes front last e p
