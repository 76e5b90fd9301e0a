use Rattle.std.proofs.Common.{◌≡◌, ◌<◌, ◌*◌, refl, sym, subst, ◌∙◌, arith}
use Rattle.pram_words.specs.declared.words.Word.TheVariants.{Node}
use Rattle.pram_words.specs.Words.{length_of, number_of}
use Rattle.pram_board.specs.declared.task.Task.{Task}
use Rattle.pram_board.specs.Inner.Plays.{driving, post_task}
use Rattle.pram_board.proofs.Roaming.{looked_more, looked_none, may_look, still_here}
use Rattle.pram_board.proofs.driver.Driver.wait.Goals as goal

pub node_word-word-requires-clause-node : goal.node_word-word-requires-clause-node
node_word-word-requires-clause-node g c =
    rw (c.node.ensures, c.task.ensures.value)
    (subst (λ (t : Task). c.args.post.now.node < 2 * t.layout.leaves) (sym c.requires.here.task)
    c.limits_hold.ensures.most)

pub looks-init : goal.looks-init
looks-init g c = record {
  same = refl;
  here = c.requires.here;
  looked = looked_none (post_task c.args.post.now) (driving c.args.self.now) c.args.patience.now;
}

pub spend-requires-clause-room : goal.spend-requires-clause-room
spend-requires-clause-room g c =
    let i = c.looks.invariant in
    let count = i.looked.count in let left = i.looked.left in
    let few = c.requires.few in let most = c.requires.most in let room = c.requires.room in
    omega arith

pub look-requires-clause-desk : goal.look-requires-clause-desk
look-requires-clause-desk g c = c.looks.invariant.here.desk

pub look-requires-clause-allowed : goal.look-requires-clause-allowed
look-requires-clause-allowed g c =
    may_look (post_task c.args.post.now) (driving c.looks.self) c.node_word-word.result
    c.looks.invariant.here
    (subst (λ (t : Task). c.node_word-word.result < length_of t.layout)
    (c.task.ensures.value ∙ c.requires.here.task) c.node_word-word.ensures.below)

pub looks-preserved : goal.looks-preserved
looks-preserved g c =
    let i = c.looks.invariant in
    let t = post_task c.args.post.now in
    let word = c.node_word-word.result in
    let node = c.args.post.now.node in
    let is : word ≡ number_of t.layout (Node node) =
    subst (λ (u : Task). word ≡ number_of u.layout (Node node))
    (c.task.ensures.value ∙ c.requires.here.task)
    (rw c.node.ensures at c.node_word-word.ensures.value) in
    let post = c.limits_hold.ensures in
    let made = c.look.ensures in
    record {
      same = made.same ∙ i.same;
      here = still_here t (driving c.args.self.now) c.args.patience.now (driving c.looks.self)
          c.looks.patience i.looked word node c.look.result post.some post.most is
          (driving c.look.new.self) c.spend.new.self made.board made.grows i.here;
      looked = looked_more t (driving c.args.self.now) c.args.patience.now (driving c.looks.self)
          c.looks.patience i.looked word node c.look.result post.some post.most is
          (driving c.look.new.self) c.spend.new.self made.board made.grows made.count
          c.spend.ensures.looks c.spend.ensures.left c.requires.room c.requires.most;
    }
