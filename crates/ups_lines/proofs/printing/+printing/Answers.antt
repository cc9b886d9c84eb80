use Rattle.std.proofs.Common.{◌≡◌, ℕ, ◌+◌, ◌<◌, List, length, take, ap, subst, arith, rules}
use Rattle.std.specs.Prelude.{OnOk}
use Rattle.std.specs.Io.KnownBytes.{Appends}
use Rattle.ups_dataset.specs.Data.{El, items_of, weight_data}
use Rattle.ups_dataset.specs.View.{value_view, element_view}
use Rattle.ups_lines.specs.Printing.{words, words_data, words_items, way_into, spaced, follows_after}
use Rattle.ups_lines.specs.Ways.{way_text}
use Rattle.ups_lines.proofs.Falling.{element_weight, item_weight}
use Rattle.ups_lines.proofs.Printed.{bytes_words, empty_words, set_whole, says_more, words_next, items_next, items_whole}
use Rattle.ups_lines.proofs.printing.+printing.Goals as goal

pub put_element-put_set-requires : goal.put_element-put_set-requires
put_element-put_set-requires g t c κs within = (omega (arith, c.decreases, ap (λ v. weight_data (value_view v)) c.in-Items-2.is, item_weight c.in-Items-2.sets.items c.loop-place.place c.set-item.result (search rules) (search rules)), within)

pub put_set-put_element-requires : goal.put_set-put_element-requires
put_set-put_element-requires g t c κs within = (omega (arith, c.decreases, element_weight c.elements-element-items.result.now c.args.set.now c.loop-element.element-index c.element-item.result c.elements-element-items.ensures (search rules) c.element-item.is), within)

pub put_element-loop-place-preserved : goal.put_element-loop-place-preserved
put_element-loop-place-preserved g t c =
    let way = way_text c.args.way.now in
    let tag = c.args.element.now.tag in
    let sets = c.deref-set-items.result.now in
    let place = c.loop-place.place in
    says_more c.args.follows.now (words_items way tag 1 (items_of (take place sets))) (words (way_into way tag (place + 1)) c.set-item.result) (words_items way tag 1 (items_of (take (place + 1) sets)))
    c.loop-place.follows c.put_set.new.follows _ _ _ (items_next way tag sets place c.set-item.result c.loop-place-test.true c.set-item.is)
    c.loop-place.invariant c.in_ok-put_set-in-Items-2.ensures.text c.in_ok-put_set-in-Items-2.ensures.follows

pub put_element-returns-after-loop-place-clause-text : goal.put_element-returns-after-loop-place-clause-text
put_element-returns-after-loop-place-clause-text g t c =
    let some : 0 < length c.in-Items-2.sets.items = search rules in
    let (said, follows) = c.loop-place.invariant in
    subst (λ (ws : List (List ℕ)). Appends (g.W.Write.contents c.args.writer.now) (g.W.Write.contents c.loop-place.writer) (spaced c.args.follows.now ws))
    (items_whole (way_text c.args.way.now) c.args.element.now.tag c.in-Items-2.sets.items c.deref-set-items.result.now c.loop-place.place (value_view c.args.element.now.value)
    (ap (λ v. value_view v) c.in-Items-2.is) c.deref-set-items.ensures.value c.loop-place.auto.place-end c.loop-place-test.false some) said

pub put_element-returns-after-loop-place-clause-follows : goal.put_element-returns-after-loop-place-clause-follows
put_element-returns-after-loop-place-clause-follows g t c =
    let some : 0 < length c.in-Items-2.sets.items = search rules in
    subst (λ (ws : List (List ℕ)). c.loop-place.follows ≡ follows_after c.args.follows.now ws)
    (items_whole (way_text c.args.way.now) c.args.element.now.tag c.in-Items-2.sets.items c.deref-set-items.result.now c.loop-place.place (value_view c.args.element.now.value)
    (ap (λ v. value_view v) c.in-Items-2.is) c.deref-set-items.ensures.value c.loop-place.auto.place-end c.loop-place-test.false some) c.loop-place.invariant.1

pub put_set-loop-element-preserved : goal.put_set-loop-element-preserved
put_set-loop-element-preserved g t c =
    let way = way_text c.args.way.now in
    let set = c.args.set.now in
    let i = c.loop-element.element-index in
    let e = c.element-item.result in
    says_more c.args.follows.now (words way (take i set)) (words_data way (element_view e).tag (element_view e).value) (words way (take (i + 1) set))
    c.loop-element.follows c.put_element.new.follows _ _ _ (words_next way c.elements-element-items.result.now set i e c.elements-element-items.ensures c.loop-element-test.true c.element-item.is)
    c.loop-element.invariant c.in_ok-put_element.ensures.text c.in_ok-put_element.ensures.follows

pub put_element-returns-in-Bytes-clause-text : goal.put_element-returns-in-Bytes-clause-text
put_element-returns-in-Bytes-clause-text g t c =
    subst (λ (ws : List (List ℕ)). OnOk c.put_attribute.result (Appends (g.W.Write.contents c.args.writer.now) (g.W.Write.contents c.put_attribute.new.writer) (spaced c.args.follows.now ws)))
    (bytes_words (way_text c.args.way.now) c.args.element.now.tag (value_view c.args.element.now.value) c.in-Bytes.bytes c.as_slice.result.now (ap (λ v. value_view v) c.in-Bytes.is) c.as_slice.ensures)
    c.put_attribute.ensures.text

pub put_element-returns-in-Bytes-clause-follows : goal.put_element-returns-in-Bytes-clause-follows
put_element-returns-in-Bytes-clause-follows g t c =
    subst (λ (ws : List (List ℕ)). OnOk c.put_attribute.result (c.put_attribute.new.follows ≡ follows_after c.args.follows.now ws))
    (bytes_words (way_text c.args.way.now) c.args.element.now.tag (value_view c.args.element.now.value) c.in-Bytes.bytes c.as_slice.result.now (ap (λ v. value_view v) c.in-Bytes.is) c.as_slice.ensures)
    c.put_attribute.ensures.follows

pub put_element-returns-in-Items-clause-text : goal.put_element-returns-in-Items-clause-text
put_element-returns-in-Items-clause-text g t c =
    let none : length c.in-Items.sets.items ≡ 0 = search rules in
    subst (λ (ws : List (List ℕ)). OnOk c.put_attribute-in-Items.result (Appends (g.W.Write.contents c.args.writer.now) (g.W.Write.contents c.put_attribute-in-Items.new.writer) (spaced c.args.follows.now ws)))
    (empty_words (way_text c.args.way.now) c.args.element.now.tag (value_view c.args.element.now.value) c.in-Items.sets.items (ap (λ v. value_view v) c.in-Items.is) none)
    c.put_attribute-in-Items.ensures.text

pub put_element-returns-in-Items-clause-follows : goal.put_element-returns-in-Items-clause-follows
put_element-returns-in-Items-clause-follows g t c =
    let none : length c.in-Items.sets.items ≡ 0 = search rules in
    subst (λ (ws : List (List ℕ)). OnOk c.put_attribute-in-Items.result (c.put_attribute-in-Items.new.follows ≡ follows_after c.args.follows.now ws))
    (empty_words (way_text c.args.way.now) c.args.element.now.tag (value_view c.args.element.now.value) c.in-Items.sets.items (ap (λ v. value_view v) c.in-Items.is) none)
    c.put_attribute-in-Items.ensures.follows

pub put_set-returns-clause-text : goal.put_set-returns-clause-text
put_set-returns-clause-text g t c =
    subst (λ (s : List El). Appends (g.W.Write.contents c.args.writer.now) (g.W.Write.contents c.loop-element.writer) (spaced c.args.follows.now (words (way_text c.args.way.now) s)))
    (set_whole c.elements-element-items.result.now c.args.set.now c.loop-element.element-index c.elements-element-items.ensures c.loop-element-test.false) c.loop-element.invariant.0

pub put_set-returns-clause-follows : goal.put_set-returns-clause-follows
put_set-returns-clause-follows g t c =
    subst (λ (s : List El). c.loop-element.follows ≡ follows_after c.args.follows.now (words (way_text c.args.way.now) s))
    (set_whole c.elements-element-items.result.now c.args.set.now c.loop-element.element-index c.elements-element-items.ensures c.loop-element-test.false) c.loop-element.invariant.1
