use Rattle.std.proofs.Common.{List, ◌++◌, ◌∷◌, [], sym, subst, ap}
use Rattle.std.specs.Prelude.{Contains, vec_len, vec_capacity}
use Rattle.std.proofs.lemmas.List.Elements.{Contains-append_left, Contains-append_right, Contains-push}
use Rattle.ups_index.specs.declared.posts.Post.{Post}
use Rattle.ups_index.specs.Posts.{post, Table, KeepsEach}
use Rattle.ups_index.proofs.Room.{has_room, one_less}
use Rattle.ups_index.proofs.Runs.{keeps_both, same_live}
use Rattle.ups_index.proofs.posts.Posts.put.Goals as goal

pub push_reserved-requires : goal.push_reserved-requires
push_reserved-requires g c =
    has_room (vec_capacity c.self.inside.waiting) (vec_len c.self.inside.waiting) c.args.self.now.room (ap (λ (t : Table). t.room) c.self.view_is) c.requires

pub returns-clause-has : goal.returns-clause-has
returns-clause-has g c =
    let p : Post = post c.args.number c.args.place in
    let waiting = c.self.inside.waiting.items in
    subst (λ (l : List Post). Contains (c.self.inside.tree.keys ++ l) p) (sym {A = List Post} c.push_reserved.ensures.items)
    (Contains-append_right c.self.inside.tree.keys (waiting ++ p ∷ []) p (Contains-push waiting p))

pub returns-clause-keeps : goal.returns-clause-keeps
returns-clause-keeps g c =
    let p : Post = post c.args.number c.args.place in
    let keys = c.self.inside.tree.keys in
    let waiting = c.self.inside.waiting.items in
    let waits = subst (KeepsEach waiting) (sym {A = List Post} c.push_reserved.ensures.items) (λ n place h. Contains-append_left waiting (p ∷ []) (post n place) h) in
    subst (λ (t : Table). KeepsEach t.posts (keys ++ c.push_reserved.new.self.items)) c.self.view_is
    (keeps_both keys waiting keys c.push_reserved.new.self.items (same_live keys) waits)

pub returns-clause-room : goal.returns-clause-room
returns-clause-room g c =
    let waiting = c.self.inside.waiting in
    let more = c.push_reserved.new.self in
    one_less (vec_capacity waiting) (vec_len waiting) c.args.self.now.room (vec_capacity more) (vec_len more) (ap (λ (t : Table). t.room) c.self.view_is) c.push_reserved.ensures.len c.push_reserved.ensures.capacity
