-- What is printed, word by word.
use Rattle.std.proofs.Common.{◌≡◌, ℕ, zero, suc, ◌+◌, ◌<◌, ◌≤◌, Bool, true, false, List, [], ◌∷◌, ◌++◌, length, take, get_or, map, refl, sym, ap, subst, ◌∙◌, arith, Option, append_assoc, append-nil, length-take}
use Rattle.std.specs.Io.KnownBytes.{Appends}
use Rattle.std.specs.List.{flat_map}
use Rattle.std.specs.Prelude.{if◌then◌else◌}
use Rattle.std.proofs.KnownBytes.{Appends-trans}
use Rattle.std.proofs.lemmas.List.{take_all, take_more}
use Rattle.std.proofs.lemmas.List.Folds.{flat_map-map}
use Rattle.ups_dataset.specs.declared.tag.Tag.{Tag}
use Rattle.ups_dataset.specs.declared.set.Element.{Element}
use Rattle.ups_dataset.specs.Data.{Data, El, bytes, items, items_of}
use Rattle.ups_dataset.specs.View.{element_view}
use Rattle.ups_lines.specs.Printing.{hex_tag, printed, word, words_data, words_items, words, way_into, spaced, follows_after}

next : {X : Type 0} (xs : List X) (i : ℕ) (x : X) → i < length xs → x ≡ get_or xs i x → take (i + 1) xs ≡ take i xs ++ x ∷ []
next xs i x low is = take_more xs i x low ∙ ap (λ y. take i xs ++ y ∷ []) (sym is)

-- words behind another, each with its space
pub spaced_flat : (ws : List (List ℕ)) → spaced true ws ≡ flat_map (λ w. 32 ∷ w) ws
spaced_flat [] = refl
spaced_flat (w ∷ ws) = ap (λ l. (32 ∷ w) ++ l) (spaced_flat ws)

pub spaced_map : {X : Type 0} (f : X → List ℕ) (xs : List X) → flat_map (λ x. 32 ∷ f x) xs ≡ spaced true (map f xs)
spaced_map f xs = sym (spaced_flat (map f xs) ∙ flat_map-map (λ w. 32 ∷ w) f xs)

pub spaced_append : (follows : Bool) (xs ys : List (List ℕ)) → spaced follows (xs ++ ys) ≡ spaced follows xs ++ spaced (follows_after follows xs) ys
spaced_append follows [] ys = refl
spaced_append true (x ∷ xs) ys = ap (λ l. (32 ∷ x) ++ l) (spaced_append true xs ys ∙ ap (λ b. spaced true xs ++ spaced b ys) (stays xs)) ∙ sym (append_assoc (32 ∷ x) (spaced true xs) (spaced true ys))
  where
    stays : (xs : List (List ℕ)) → follows_after true xs ≡ true
    stays [] = refl
    stays (x ∷ xs) = refl
spaced_append false (x ∷ xs) ys = ap (λ l. x ++ l) (spaced_append true xs ys ∙ ap (λ b. spaced true xs ++ spaced b ys) (stays xs)) ∙ sym (append_assoc x (spaced true xs) (spaced true ys))
  where
    stays : (xs : List (List ℕ)) → follows_after true xs ≡ true
    stays [] = refl
    stays (x ∷ xs) = refl

pub follows_append : (follows : Bool) (xs ys : List (List ℕ)) → follows_after follows (xs ++ ys) ≡ follows_after (follows_after follows xs) ys
follows_append follows [] ys = refl
follows_append follows (x ∷ xs) [] = refl
follows_append follows (x ∷ xs) (y ∷ ys) = refl

-- words are written behind others
pub says_more : (follows : Bool) (old here all : List (List ℕ)) (now later : Bool) (a b c : Option (List ℕ)) → all ≡ old ++ here
    → Appends a b (spaced follows old) × (now ≡ follows_after follows old) → Appends b c (spaced now here) → later ≡ follows_after now here
    → Appends a c (spaced follows all) × (later ≡ follows_after follows all)
says_more follows old here all now later a b c is (before, was) said after = (
  subst (Appends a c) (sym (ap (spaced follows) is ∙ spaced_append follows old here ∙ ap (λ b. spaced follows old ++ spaced b here) (sym was))) (Appends-trans a b c _ _ before said),
  after ∙ ap (λ b. follows_after b here) was ∙ sym (ap (follows_after follows) is ∙ follows_append follows old here),
)

words_snoc : (way : List ℕ) (es : List El) (e : El) → words way (es ++ e ∷ []) ≡ words way es ++ words_data way e.tag e.value
words_snoc way [] e = append-nil (words_data way e.tag e.value)
words_snoc way (x ∷ xs) e = ap (λ l. words_data way x.tag x.value ++ l) (words_snoc way xs e) ∙ sym (append_assoc (words_data way x.tag x.value) (words way xs) (words_data way e.tag e.value))

viewed : {A : Type 0} (es : List (Element A)) (i : ℕ) (e : Element A) → i < length es → e ≡ get_or es i e → element_view e ≡ get_or (map element_view es) i (element_view e)
viewed [] i e low is = absurd (omega (arith, low))
viewed (x ∷ xs) zero e low is = ap element_view is
viewed (x ∷ xs) (suc i) e low is = viewed xs i e (omega (arith, low)) is

counted : {A : Type 0} (es : List (Element A)) → length (map element_view es) ≡ length es
counted [] = refl
counted (x ∷ xs) = ap (λ n. suc n) (counted xs)

-- the words of the next element of a set
pub words_next : {A : Type 0} (way : List ℕ) (es : List (Element A)) (set : List El) (i : ℕ) (e : Element A) → map element_view es ≡ set → i < length es → e ≡ get_or es i e
    → words way (take (i + 1) set) ≡ words way (take i set) ++ words_data way (element_view e).tag (element_view e).value
words_next way es set i e view low is =
    let seen : i < length set = omega (arith, ap length view, counted es) in
    let at : element_view e ≡ get_or set i (element_view e) = viewed es i e low is ∙ ap (λ l. get_or l i (element_view e)) view in
    ap (words way) (next set i (element_view e) seen at) ∙ words_snoc way (take i set) (element_view e)

items_snoc : (way : List ℕ) (tag : Tag) (n : ℕ) (ss : List (List El)) (s : List El) → words_items way tag n (items_of (ss ++ s ∷ [])) ≡ words_items way tag n (items_of ss) ++ words (way_into way tag (n + length ss)) s
items_snoc way tag n [] s =
    let same : n ≡ n + 0 = omega arith in
    append-nil (words (way_into way tag n) s) ∙ ap (λ k. words (way_into way tag k) s) same
items_snoc way tag n (x ∷ xs) s =
    let more : (n + 1) + length xs ≡ n + suc (length xs) = omega arith in
    ap (λ l. words (way_into way tag n) x ++ l) (items_snoc way tag (n + 1) xs s ∙ ap (λ k. words_items way tag (n + 1) (items_of xs) ++ words (way_into way tag k) s) more)
    ∙ sym (append_assoc (words (way_into way tag n) x) (words_items way tag (n + 1) (items_of xs)) (words (way_into way tag (n + suc (length xs))) s))

-- the words of the next item of a sequence
pub items_next : (way : List ℕ) (tag : Tag) (ss : List (List El)) (i : ℕ) (s : List El) → i < length ss → s ≡ get_or ss i s
    → words_items way tag 1 (items_of (take (i + 1) ss)) ≡ words_items way tag 1 (items_of (take i ss)) ++ words (way_into way tag (i + 1)) s
items_next way tag ss i s low is =
    let count : 1 + length (take i ss) ≡ i + 1 = omega (arith, length-take i ss) in
    ap (λ l. words_items way tag 1 (items_of l)) (next ss i s low is) ∙ items_snoc way tag 1 (take i ss) s
    ∙ ap (λ k. words_items way tag 1 (items_of (take i ss)) ++ words (way_into way tag k) s) count

pub words_some : (way : List ℕ) (tag : Tag) (ss : List (List El)) → 0 < length ss → words_data way tag (items (items_of ss)) ≡ words_items way tag 1 (items_of ss)
words_some way tag [] some = absurd (omega (arith, some))
words_some way tag (s ∷ ss) some = refl

-- all items of a sequence that has some
pub items_whole : (way : List ℕ) (tag : Tag) (ss shown : List (List El)) (i : ℕ) (v : Data) → v ≡ items (items_of ss) → shown ≡ ss → i ≤ length shown → length shown ≤ i → 0 < length ss
    → words_items way tag 1 (items_of (take i shown)) ≡ words_data way tag v
items_whole way tag ss shown i v is same within whole some =
    ap (λ l. words_items way tag 1 (items_of l)) (take_all i shown whole ∙ same) ∙ sym (words_some way tag ss some) ∙ ap (λ d. words_data way tag d) (sym is)

-- a value that is bytes is one word
pub bytes_words : (way : List ℕ) (tag : Tag) (v : Data) (b shown : List ℕ) → v ≡ bytes b → shown ≡ b → word way tag shown ∷ [] ≡ words_data way tag v
bytes_words way tag v b shown is same = ap (λ l. word way tag l ∷ []) same ∙ sym (ap (λ d. words_data way tag d) is)

-- a sequence without items too
pub empty_words : (way : List ℕ) (tag : Tag) (v : Data) (ss : List (List El)) → v ≡ items (items_of ss) → length ss ≡ 0 → word way tag [] ∷ [] ≡ words_data way tag v
empty_words way tag v [] is none = sym (ap (λ d. words_data way tag d) is)
empty_words way tag v (s ∷ ss) is none = absurd (omega (arith, none))

-- all elements of a set
pub set_whole : {A : Type 0} (es : List (Element A)) (set : List El) (i : ℕ) → map element_view es ≡ set → length es ≤ i → take i set ≡ set
set_whole es set i view whole = take_all i set (omega (arith, ap length view, counted es, whole))

-- an attribute is written: its way, its tag, an equals sign and its value
word_from : (way : List ℕ) (tag : Tag) (value : List ℕ) (b c d e f : Option (List ℕ)) → Appends b c way → Appends c d (hex_tag tag) → Appends d e (61 ∷ []) → Appends e f (printed value) → Appends b f (word way tag value)
word_from way tag value b c d e f q r s t = Appends-trans b d f _ _ (Appends-trans b c d _ _ q r) (Appends-trans d e f _ _ s t)

-- and behind a space if it follows something
pub word_put : (follows : Bool) (way : List ℕ) (tag : Tag) (value : List ℕ) (a b c d e f : Option (List ℕ)) → Appends a b (if follows then 32 ∷ [] else []) → Appends b c way → Appends c d (hex_tag tag)
    → Appends d e (61 ∷ []) → Appends e f (printed value) → Appends a f (spaced follows (word way tag value ∷ []))
word_put true way tag value a b c d e f p q r s t = subst (Appends a f) (sym (append-nil (32 ∷ word way tag value))) (Appends-trans a b f _ _ p (word_from way tag value b c d e f q r s t))
word_put false way tag value a b c d e f p q r s t = subst (Appends a f) (sym (append-nil (word way tag value))) (Appends-trans a b f _ _ p (word_from way tag value b c d e f q r s t))
