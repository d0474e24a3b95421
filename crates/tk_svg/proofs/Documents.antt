-- No bytes are a document for two drawings.
use Rattle.std.proofs.Common.{◌≡◌, ℕ, suc, Bool, true, false, List, [], ◌∷◌, ◌++◌, Option, Some, refl, sym, ap, subst, ◌∙◌}
use Rattle.std.specs.Prelude.{◌==◌, ℤ, neg_ℤ, ◌+ℤ◌, codes}
use Rattle.std.specs.List.{list_all}
use Rattle.std.proofs.lemmas.Bool.{false≢true}
use Rattle.std.proofs.lemmas.List.{append_cancel_left}
use Rattle.tk_item.specs.declared.Seg.{Seg}
use Rattle.tk_item.specs.declared.Rgb.{Rgb}
use Rattle.tk_item.specs.declared.Item.{Item}
use Rattle.tk_item.specs.declared.Item.TheVariants.{Path}
use Rattle.tk_item.specs.declared.Drawing.{Drawing}
use Rattle.tk_item.specs.declared.Frame.{Frame}
use Rattle.tk_item.specs.declared.Fill.{Fill}
use Rattle.tk_item.specs.declared.Stroke.{Stroke}
use Rattle.tk_svg.specs.Scan.{Attribute, Attributes, after_blanks, numbers_of, scaled_of}
use Rattle.tk_svg.specs.PathData.{IsPathData}
use Rattle.tk_svg.specs.Labels.{label_of}
use Rattle.tk_svg.specs.Paint.{fill_of, stroke_of}
use Rattle.tk_svg.specs.Document.{IsPathElement, IsTextElement, Content, IsSvg, IsDocument, is_content_byte}
use Rattle.tk_svg.specs.Document as doc
use Rattle.tk_svg.proofs.Unique.{some_same, head_same, tail_same, same_cells, split_same, path_same, attributes_same}
use Rattle.tk_svg.proofs.Labels.{placed_same, spells_same}

-- ---- elements

path_item_same : (own inherited : List Attribute) (i j : Item) → IsPathElement own inherited i → IsPathElement own inherited j → i ≡ j
path_item_same own inherited i j p q =
    let texts = some_same _ p.path q.path p.has_path q.has_path in
    let segs = path_same p.path p.segs q.segs p.segs_are (subst (λ (t : List ℕ). IsPathData t q.segs) (sym texts) q.segs_are) in
    let fills = some_same (fill_of (own ++ inherited)) p.fill q.fill p.fill_is q.fill_is in
    let strokes = some_same (stroke_of (own ++ inherited)) p.stroke q.stroke p.stroke_is q.stroke_is in
    p.is ∙ item_same segs fills strokes ∙ sym q.is
  where
    item_same : {s t : List Seg} {f g : Option Fill} {u v : Option Stroke} → s ≡ t → f ≡ g → u ≡ v → Path s f u ≡ Path t g v
    item_same x y z = cc

text_item_same : (own inherited : List Attribute) (content : List ℕ) (i j : Item) → IsTextElement own inherited content i
    → IsTextElement own inherited content j → i ≡ j
text_item_same own inherited content i j p q =
    let numbers = placed_same p.placed q.placed in
    let texts = spells_same p.spelled q.spelled in
    let fills = some_same (Some p.fill) p.fill q.fill refl (some_same (fill_of (own ++ inherited)) (Some p.fill) (Some q.fill) p.filled q.filled) in
    some_same (label_of p.numbers p.fill.rgb p.text) i j p.is (labels_same numbers (ap (λ (f : Fill). f.rgb) fills) texts ∙ q.is)
  where
    labels_same : {m n : List ℤ} {b c : Rgb} {s t : List ℕ} → m ≡ n → b ≡ c → s ≡ t → label_of m b s ≡ label_of n c t
    labels_same {n = n} {b = b} {c = c} {s = s} e f g =
        ap (λ w. label_of w b s) e ∙ ap (λ w. label_of n w s) f ∙ ap (λ w. label_of n c w) g

-- ---- content

-- what begins with `<` and a byte does not begin with `<` and another
begins_one : (p : ℕ → Bool) (all : List ℕ) (a b : ℕ) (r s : List ℕ) → all ≡ 60 ∷ a ∷ r → all ≡ 60 ∷ b ∷ s → p a ≡ true → p b ≡ false → ⊥
begins_one p all a b r s e f holds differs =
    let tails = tail_same all 60 60 (a ∷ r) (b ∷ s) e f in
    let same : a ≡ b = head_same (a ∷ r) a b r s refl tails in
    false≢true (sym differs ∙ sym (ap p same) ∙ holds)

slash_no : (all r s : List ℕ) (b : ℕ) → all ≡ 60 ∷ 47 ∷ r → all ≡ 60 ∷ b ∷ s → (b == 47) ≡ false → ⊥
slash_no all r s b e f differs = begins_one (λ n. n == 47) all 47 b r s e f refl differs

p_no : (all r s : List ℕ) (b : ℕ) → all ≡ 60 ∷ 112 ∷ r → all ≡ 60 ∷ b ∷ s → (b == 112) ≡ false → ⊥
p_no all r s b e f differs = begins_one (λ n. n == 112) all 112 b r s e f refl differs

t_no : (all r s : List ℕ) (b : ℕ) → all ≡ 60 ∷ 116 ∷ r → all ≡ 60 ∷ b ∷ s → (b == 116) ≡ false → ⊥
t_no all r s b e f differs = begins_one (λ n. n == 116) all 116 b r s e f refl differs

ends_same : (all r s : List ℕ) → all ≡ 60 ∷ 47 ∷ r → all ≡ 60 ∷ 47 ∷ s → r ≡ s
ends_same all r s e f = cc

-- the path at the front is one, and so is what is left
path_step : (inherited all tag tag' more more' : _) (a a' : List Attribute) (x y : Item) → all ≡ codes "<path" ++ tag → all ≡ codes "<path" ++ tag'
    → Attributes tag a (47 ∷ 62 ∷ more) → Attributes tag' a' (47 ∷ 62 ∷ more') → IsPathElement a inherited x → IsPathElement a' inherited y
    → (x ≡ y) × (more' ≡ more)
path_step inherited all tag tag' more more' a a' x y f f' g g' h h' =
    let tags : tag ≡ tag' = append_cancel_left (codes "<path") tag tag' (sym f ∙ f') in
    let both = attributes_same g (subst (λ (t : List ℕ). Attributes t a' (47 ∷ 62 ∷ more')) (sym tags) g') in
    let mores : more ≡ more' = tail_same _ 62 62 _ _ refl (sym (tail_same _ 47 47 _ _ refl (sym both.1))) in
    (path_item_same a inherited x y h (subst (λ (w : List Attribute). IsPathElement w inherited y) (sym both.0) h'), sym mores)

-- a start tag is one, and so is what stands behind it
start_step : (word all tag tag' inside inside' : List ℕ) (a a' : List Attribute) → all ≡ word ++ tag → all ≡ word ++ tag'
    → Attributes tag a (62 ∷ inside) → Attributes tag' a' (62 ∷ inside') → (a' ≡ a) × (inside' ≡ inside)
start_step word all tag tag' inside inside' a a' f f' g g' =
    let tags : tag ≡ tag' = append_cancel_left word tag tag' (sym f ∙ f') in
    let both = attributes_same g (subst (λ (t : List ℕ). Attributes t a' (62 ∷ inside')) (sym tags) g') in
    (sym both.0, sym (tail_same _ 62 62 _ _ refl both.1))

-- the content of a text is one, and so is what stands behind its end tag
content_step : (inside content content' more more' : List ℕ) → inside ≡ content ++ (codes "</text>" ++ more)
    → inside ≡ content' ++ (codes "</text>" ++ more') → list_all is_content_byte content ≡ true → list_all is_content_byte content' ≡ true
    → (content ≡ content') × (more' ≡ more)
content_step inside content content' more more' e f h i =
    let both = split_same is_content_byte 60 refl content content' (codes "/text>" ++ more) (codes "/text>" ++ more') h i (sym e ∙ f) in
    (both.0, append_cancel_left (codes "/text>") more' more (sym both.1))

-- the text at the front is one, and so is what is left
text_step : (inherited own own' : List Attribute) (inside inside' content content' more more' : List ℕ) (x y : Item) → own' ≡ own → inside' ≡ inside
    → inside ≡ content ++ (codes "</text>" ++ more) → inside' ≡ content' ++ (codes "</text>" ++ more')
    → list_all is_content_byte content ≡ true → list_all is_content_byte content' ≡ true
    → IsTextElement own inherited content x → IsTextElement own' inherited content' y → (x ≡ y) × (more' ≡ more)
text_step inherited own own' inside inside' content content' more more' x y a b e f h i p q =
    let parts = content_step inside content content' more more' e (sym b ∙ f) h i in
    let other : IsTextElement own inherited content y = subst (λ (c : List ℕ). IsTextElement own inherited c y) (sym parts.0)
    (subst (λ (w : List Attribute). IsTextElement w inherited content' y) a q) in
    (text_item_same own inherited content x y p other, parts.1)

both_lists : {xs ys us vs : List Item} → xs ≡ us → ys ≡ vs → xs ++ ys ≡ us ++ vs
both_lists e f = cc

pub content_same : {depth : ℕ} {w : List Attribute} {bytes : List ℕ} {a b : List Item} {r s : List ℕ} → Content depth w bytes a r → Content depth w bytes b s
    → (a ≡ b) × (r ≡ s)
content_same {bytes = bytes} (doc.ends {rest = r} e) (doc.ends {rest = s} f) = (refl, ends_same (after_blanks bytes) r s e f)
content_same {bytes = bytes} (doc.ends e) (doc.path f g h i) = absurd (slash_no (after_blanks bytes) _ _ 112 e f refl)
content_same {bytes = bytes} (doc.ends e) (doc.text f g h i j k) = absurd (slash_no (after_blanks bytes) _ _ 116 e f refl)
content_same {bytes = bytes} (doc.ends e) (doc.group f g h d i k l) = absurd (slash_no (after_blanks bytes) _ _ 103 e f refl)
content_same {bytes = bytes} (doc.path f g h i) (doc.ends e) = absurd (slash_no (after_blanks bytes) _ _ 112 e f refl)
content_same {depth = n} {w = w} {bytes = bytes} (doc.path {own = a} {tag = tag} {more = more} {item = x} f g h i)
    (doc.path {own = a'} {tag = tag'} {more = more'} {rest = s} {item = y} {items = items'} f' g' h' i') =
    let here = path_step w (after_blanks bytes) tag tag' more more' a a' x y f f' g g' h h' in
    let then = content_same i (subst (λ (m : List ℕ). Content n w m items' s) here.1 i') in
    (same_cells here.0 then.0, then.1)
content_same {bytes = bytes} (doc.path f g h i) (doc.text f' g' h' i' j' k') = absurd (p_no (after_blanks bytes) _ _ 116 f f' refl)
content_same {bytes = bytes} (doc.path f g h i) (doc.group f' g' h' d i' k l) = absurd (p_no (after_blanks bytes) _ _ 103 f f' refl)
content_same {bytes = bytes} (doc.text f g h i j k) (doc.ends e) = absurd (slash_no (after_blanks bytes) _ _ 116 e f refl)
content_same {bytes = bytes} (doc.text f g h i j k) (doc.path f' g' h' i') = absurd (p_no (after_blanks bytes) _ _ 116 f' f refl)
content_same {depth = n} {w = w} {bytes = bytes} (doc.text {own = a} {tag = tag} {inside = inside} {content = c} {more = more} {item = x} f g h i j k)
    (doc.text {own = a'} {tag = tag'} {inside = inside'} {content = c'} {more = more'} {rest = s} {item = y} {items = items'} f' g' h' i' j' k') =
    let start = start_step (codes "<text") (after_blanks bytes) tag tag' inside inside' a a' f f' g g' in
    let here = text_step w a a' inside inside' c c' more more' x y start.0 start.1 h h' i i' j j' in
    let then = content_same k (subst (λ (m : List ℕ). Content n w m items' s) here.1 k') in
    (same_cells here.0 then.0, then.1)
content_same {bytes = bytes} (doc.text f g h i j k) (doc.group f' g' h' d i' k' l) = absurd (t_no (after_blanks bytes) _ _ 103 f f' refl)
content_same {bytes = bytes} (doc.group f g h d i k l) (doc.ends e) = absurd (slash_no (after_blanks bytes) _ _ 103 e f refl)
content_same {bytes = bytes} (doc.group f g h d i k l) (doc.path f' g' h' i') = absurd (p_no (after_blanks bytes) _ _ 103 f' f refl)
content_same {bytes = bytes} (doc.group f g h d i k l) (doc.text f' g' h' i' j' k') = absurd (t_no (after_blanks bytes) _ _ 103 f' f refl)
content_same {depth = n} {w = w} {bytes = bytes} (doc.group {own = a} {tag = tag} {inside = inside} {behind = behind} {more = more} f g h d i k l)
    (doc.group {own = a'} {tag = tag'} {inside = inside'} {behind = behind'} {more = more'} {rest = s} {inner = inner'} {items = items'} f' g' h' d' i' k' l') =
    let here = start_step (codes "<g") (after_blanks bytes) tag tag' inside inside' a a' f f' g g' in
    let other : Content (suc n) (a ++ w) inside inner' behind' = subst (λ (v : List Attribute). Content (suc n) (v ++ w) inside inner' behind') here.0
    (subst (λ (m : List ℕ). Content (suc n) (a' ++ w) m inner' behind') here.1 i') in
    let inner = content_same i other in
    let mores : more' ≡ more = append_cancel_left (codes "g>") more' more (sym k' ∙ sym inner.1 ∙ k) in
    let then = content_same l (subst (λ (m : List ℕ). Content n w m items' s) mores l') in
    (both_lists inner.0 then.0, then.1)

-- ---- the document

-- a view box is one frame
box_same : {x y w h x' y' w' h' : ℤ} → ◌≡◌ {A = List ℤ} (x ∷ y ∷ w ∷ h ∷ []) (x' ∷ y' ∷ w' ∷ h' ∷ [])
    → ◌≡◌ {A = Frame} (record { left = x; bottom = neg_ℤ (y +ℤ h); right = x +ℤ w; top = neg_ℤ y }) (record {
      left = x';
      bottom = neg_ℤ (y' +ℤ h');
      right = x' +ℤ w';
      top = neg_ℤ y';
    })
box_same e = cc

svg_same : (attributes : List Attribute) (a b : Drawing) → IsSvg attributes a → IsSvg attributes b
    → (a.frame ≡ b.frame) × (a.family ≡ b.family) × (a.size ≡ b.size)
svg_same attributes a b p q =
    let box_texts = some_same _ p.box_text q.box_text p.has_box q.has_box in
    let boxes = some_same _ (p.x ∷ p.y ∷ p.w ∷ p.h ∷ []) (q.x ∷ q.y ∷ q.w ∷ q.h ∷ []) p.box_is (ap (numbers_of 4) box_texts ∙ q.box_is) in
    let families = some_same _ a.family b.family p.has_family q.has_family in
    let size_texts = some_same _ p.size_text q.size_text p.has_size q.has_size in
    let sizes = some_same _ a.size b.size p.size_is (ap scaled_of size_texts ∙ q.size_is) in
    (p.frame_is ∙ box_same boxes ∙ sym q.frame_is, families, sizes)

whole_same : (a b : Drawing) → a.frame ≡ b.frame → a.family ≡ b.family → a.size ≡ b.size → a.items ≡ b.items → a ≡ b
whole_same a b f g h i = λ k. record { frame = f k; family = g k; size = h k; items = i k }

pub drawing_same : (bytes : List ℕ) (a b : Drawing) → IsDocument bytes a → IsDocument bytes b → a ≡ b
drawing_same bytes a b p q =
    let starts : p.start ≡ q.start = append_cancel_left doc.declaration p.start q.start (sym p.declared ∙ q.declared) in
    let tags : p.tag ≡ q.tag = append_cancel_left (codes "<svg") p.tag q.tag (sym p.opens ∙ ap after_blanks starts ∙ q.opens) in
    let both = attributes_same p.has (subst (λ (t : List ℕ). Attributes t q.attributes (62 ∷ q.content)) (sym tags) q.has) in
    let contents : p.content ≡ q.content = tail_same _ 62 62 _ _ refl both.1 in
    let items = content_same p.items_are (subst (λ (m : List ℕ). Content 0 [] m b.items q.close) (sym contents) q.items_are) in
    let parts = svg_same p.attributes a b p.means (subst (λ (w : List Attribute). IsSvg w b) (sym both.0) q.means) in
    whole_same a b parts.0 parts.1 parts.2 items.0
