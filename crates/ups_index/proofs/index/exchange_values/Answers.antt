use Rattle.std.proofs.Common.{ℕ, ℤ, ◌+◌, ◌≤◌, List, Option, sym, subst}
use Rattle.ups_dataset.specs.declared.tag.Tag.{Tag}
use Rattle.ups_index.specs.Posts.{HasTexts, HasStart}
use Rattle.ups_index.proofs.Room.{viewed_len}
use Rattle.ups_index.proofs.index.exchange_values.Goals as goal

pub exchange_texts-requires-clause-posted : goal.exchange_texts-requires-clause-posted
exchange_texts-requires-clause-posted g c =
    subst (λ (t : List (Tag × List ℕ)). HasTexts t c.args.place c.args.texts.now.posts) (sym c.texts.ensures) c.requires.texts

pub exchange_texts-requires-clause-room : goal.exchange_texts-requires-clause-room
exchange_texts-requires-clause-room g c =
    subst (λ (n : ℕ). n ≤ c.args.texts.now.room) (sym (viewed_len c.texts-2.result.now c.args.new.now.texts c.texts-2.ensures)) c.requires.text_room

pub exchange_start-requires-clause-posted : goal.exchange_start-requires-clause-posted
exchange_start-requires-clause-posted g c =
    subst (λ (o : Option ℤ). HasStart o c.args.place c.args.starts.now.posts) (sym c.start.ensures) c.requires.starts

pub exchange_start-requires-clause-room : goal.exchange_start-requires-clause-room
exchange_start-requires-clause-room g c = c.requires.start_room

pub returns-clause-texts : goal.returns-clause-texts
returns-clause-texts g c = subst (λ (t : List (Tag × List ℕ)). HasTexts t c.args.place c.exchange_texts.new.table.posts) c.texts-2.ensures c.exchange_texts.ensures.has

pub returns-clause-keeps_texts : goal.returns-clause-keeps_texts
returns-clause-keeps_texts g c = c.exchange_texts.ensures.keeps

pub returns-clause-text_room : goal.returns-clause-text_room
returns-clause-text_room g c =
    subst (λ (n : ℕ). c.args.texts.now.room ≤ c.exchange_texts.new.table.room + n) (viewed_len c.texts-2.result.now c.args.new.now.texts c.texts-2.ensures) c.exchange_texts.ensures.room

pub returns-clause-starts : goal.returns-clause-starts
returns-clause-starts g c = subst (λ (o : Option ℤ). HasStart o c.args.place c.exchange_start.new.table.posts) c.start-2.ensures c.exchange_start.ensures.has

pub returns-clause-keeps_starts : goal.returns-clause-keeps_starts
returns-clause-keeps_starts g c = c.exchange_start.ensures.keeps

pub returns-clause-start_room : goal.returns-clause-start_room
returns-clause-start_room g c = c.exchange_start.ensures.room
