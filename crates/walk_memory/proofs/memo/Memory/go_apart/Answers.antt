use Rattle.std.proofs.Common.{◌≡◌, ◌+◌, ◌-◌, ◌/◌, ◌<◌, ◌≤◌, List, [], length, slice_get, Some}
use Rattle.std.proofs.Common.{refl, sym, ap, subst, ◌∙◌, arith}
use Rattle.std.proofs.lemmas.Option.{slice_get-get_or}
use Rattle.pram_words.specs.Words.{LayoutData, grain}
use Rattle.walk_memory.specs.declared.memo.Memo.{Memo}
use Rattle.walk_memory.specs.Inner.Posts.{IsPost, PostData}
use Rattle.walk_memory.specs.Lanes.{lane, memos_of}
use Rattle.walk_memory.specs.Together.{gone_from}
use Rattle.walk_memory.specs.Blocks.{processor_at}
use Rattle.walk_memory.proofs.Apart.{lane_below, none_goes_on, went_far, went_stays}
use Rattle.walk_memory.proofs.Lanes.{length_all}
use Rattle.walk_memory.proofs.RowGone.{row_gone}
use Rattle.walk_memory.proofs.memo.Memory.go_apart.Goals as goal
use Rattle.walk_memory.proofs.memo.Memory.go_apart.Goals.{in-Some+then-q-len, in-Some+else-q-len}
use Rattle.walk_memory.proofs.memo.Memory.go_apart.Goals.{in-None}

pub returns : goal.returns
returns c =
    let at = c.args.post.now in
    let memory = c.args.self.now in
    let lanes = c.span_of-lanes.result in
    let q = lanes.first / 64 in
    elim c.match-self.branch [
      | in-Some+then-q-len w ↦ (
          let items = w.in-Some.blocks.items in
          let old = w.index_mut-block.result.now in
          let block = w.go_apart.new.block in
          let job = c.post.inside.job.now in
          let low : q < length items =
          omega (arith, w.in-Some.blocks.ok, w.len.ensures, w.if-q-len.true) in
          let there : slice_get items q ≡ Some old =
          slice_get-get_or items q old low ∙ ap Some (sym w.index_mut-block.ensures.value) in
          let job_is : job ≡ at.job = ap (λ (p : PostData). p.job) c.post.view_is in
          let view : memos_of items ≡ memory = rw w.in-Some.is at c.self.view_is in
          rw w.self-inside-is (row_gone at items q lanes old block job job_is low there refl
          c.span_of-lanes.ensures.row c.span_of-lanes.ensures.start c.span_of-lanes.ensures.ranks
          (λ k from to. went_far job (lanes.first + k) (lane old k) (lane block k)
          (w.go_apart.ensures.gone k from to)) w.go_apart.ensures.before w.go_apart.ensures.after
          (λ k from to. went_stays job (lanes.first + k) (lane old k) (lane block k)
          (w.go_apart.ensures.gone k from to))
          ∙ ap (λ (m : List Memo). gone_from at 0 m) view))
      | in-Some+else-q-len w ↦ (
          let items = w.in-Some.blocks.items in
          let view : memos_of items ≡ memory = rw w.in-Some.is at c.self.view_is in
          let past : length memory ≤ processor_at at.layout at.node 0 =
          omega (
            arith,
            w.in-Some.blocks.ok,
            w.len.ensures,
            w.if-q-len.false,
            length_all items,
            ap (λ (m : List Memo). length m) view,
            c.span_of-lanes.ensures.start,
          ) in
          rw w.self-inside-is (view ∙ sym (none_goes_on at.job at.layout at.node
          (grain at.layout - 0) 0 memory past)))
      | in-None w ↦ (
          let none : [] ≡ memory = rw w.in-None.is at c.self.view_is in
          let past : length memory ≤ processor_at at.layout at.node 0 =
          omega (arith, ap (λ (m : List Memo). length m) none) in
          rw w.self-inside-is (c.self.view_is ∙ sym (none_goes_on at.job at.layout at.node
          (grain at.layout - 0) 0 memory past)))
    ]

pub go_apart-requires : goal.go_apart-requires
go_apart-requires c = λ k from to.
    let at = c.args.post.now in
    let lanes = c.span_of-lanes.result in
    let post : IsPost at = subst (λ (p : PostData). IsPost p) c.post.view_is c.post.invariant in
    let procs : at.layout.procs ≡ at.job.procs =
    ap (λ (y : LayoutData). y.procs) post.board.is in
    let most : lanes.first + k < at.job.procs =
    omega (
      arith,
      procs,
      lane_below at.layout at.node lanes.first lanes.start lanes.end k
          c.span_of-lanes.ensures.start c.span_of-lanes.ensures.ranks from to,
    ) in
    subst (λ (p : PostData). lanes.first + k < p.job.procs) (sym c.post.view_is) most
