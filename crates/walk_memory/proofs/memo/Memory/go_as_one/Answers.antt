use Rattle.std.proofs.Common.{◌≡◌, ◌/◌, ◌<◌, List, length, slice_get, Some, refl, sym, ap, ◌∙◌, arith}
use Rattle.std.proofs.lemmas.Option.{slice_get-get_or}
use Rattle.walk_memory.specs.declared.memo.Memo.{Memo}
use Rattle.walk_memory.specs.Inner.Posts.{PostData}
use Rattle.walk_memory.specs.Lanes.{memos_of}
use Rattle.walk_memory.specs.Together.{gone_from}
use Rattle.walk_memory.proofs.RowGone.{row_far, row_reach, row_stay}
use Rattle.walk_memory.proofs.memo.Memory.go_as_one.Goals as goal

pub returns-in_err-reach-in-Some-clause-far : goal.returns-in_err-reach-in-Some-clause-far
returns-in_err-reach-in-Some-clause-far c =
    let items = c.in-Some.blocks.items in
    let lanes = c.span_of-lanes.result in
    let q = lanes.first / 64 in
    let old = c.index_mut-block.result.now in
    let low : q < length items =
    omega (arith, c.in-Some.blocks.ok, c.len.ensures, c.if-q-len.true) in
    let there : slice_get items q ≡ Some old =
    slice_get-get_or items q old low ∙ ap Some (sym c.index_mut-block.ensures.value) in
    let job_is : c.post.inside.job.now ≡ c.args.post.now.job =
    ap (λ (p : PostData). p.job) c.post.view_is in
    let view : memos_of items ≡ c.args.self.now = rw c.in-Some.is at c.self.view_is in
    row_far c.args.post.now items q lanes old c.go_far.new.block c.post.inside.job.now job_is low
    there refl c.span_of-lanes.ensures.row c.span_of-lanes.ensures.start c.span_of-lanes.ensures.ranks
    c.go_far.ensures.far c.go_far.ensures.before c.go_far.ensures.after
    ∙ ap (λ (memory : List Memo). gone_from c.args.post.now 0 memory) view

pub returns-then-q-len-clause-far : goal.returns-then-q-len-clause-far
returns-then-q-len-clause-far c =
    let items = c.in-Some.blocks.items in
    let lanes = c.span_of-lanes.result in
    let q = lanes.first / 64 in
    let old = c.index_mut-block.result.now in
    let low : q < length items =
    omega (arith, c.in-Some.blocks.ok, c.len.ensures, c.if-q-len.true) in
    let there : slice_get items q ≡ Some old =
    slice_get-get_or items q old low ∙ ap Some (sym c.index_mut-block.ensures.value) in
    let job_is : c.post.inside.job.now ≡ c.args.post.now.job =
    ap (λ (p : PostData). p.job) c.post.view_is in
    let view : memos_of items ≡ c.args.self.now = rw c.in-Some.is at c.self.view_is in
    row_far c.args.post.now items q lanes old c.go_far.new.block c.post.inside.job.now job_is low
    there refl c.span_of-lanes.ensures.row c.span_of-lanes.ensures.start c.span_of-lanes.ensures.ranks
    c.go_far.ensures.far c.go_far.ensures.before c.go_far.ensures.after
    ∙ ap (λ (memory : List Memo). gone_from c.args.post.now 0 memory) view

pub returns-then-q-len-clause-stay : goal.returns-then-q-len-clause-stay
returns-then-q-len-clause-stay c =
    let items = c.in-Some.blocks.items in
    let lanes = c.span_of-lanes.result in
    let q = lanes.first / 64 in
    let old = c.index_mut-block.result.now in
    let low : q < length items =
    omega (arith, c.in-Some.blocks.ok, c.len.ensures, c.if-q-len.true) in
    let there : slice_get items q ≡ Some old =
    slice_get-get_or items q old low ∙ ap Some (sym c.index_mut-block.ensures.value) in
    let job_is : c.post.inside.job.now ≡ c.args.post.now.job =
    ap (λ (p : PostData). p.job) c.post.view_is in
    row_stay c.args.post.now items q lanes old c.go_far.new.block c.post.inside.job.now job_is low
    there refl c.span_of-lanes.ensures.row c.span_of-lanes.ensures.start c.span_of-lanes.ensures.ranks
    c.go_far.ensures.far c.go_far.ensures.before c.go_far.ensures.after
    c.post.inside.phase c.in_ok-reach-in-Some.reach c.in_ok-reach-in-Some.ensures.rest

pub returns-then-q-len-clause-reach : goal.returns-then-q-len-clause-reach
returns-then-q-len-clause-reach c =
    let items = c.in-Some.blocks.items in
    let lanes = c.span_of-lanes.result in
    let q = lanes.first / 64 in
    let old = c.index_mut-block.result.now in
    let low : q < length items =
    omega (arith, c.in-Some.blocks.ok, c.len.ensures, c.if-q-len.true) in
    let there : slice_get items q ≡ Some old =
    slice_get-get_or items q old low ∙ ap Some (sym c.index_mut-block.ensures.value) in
    let job_is : c.post.inside.job.now ≡ c.args.post.now.job =
    ap (λ (p : PostData). p.job) c.post.view_is in
    c.max.ensures ∙ row_reach c.args.post.now items q lanes old c.go_far.new.block c.post.inside.job.now job_is low
    there refl c.span_of-lanes.ensures.row c.span_of-lanes.ensures.start c.span_of-lanes.ensures.ranks
    c.go_far.ensures.far c.go_far.ensures.before c.go_far.ensures.after
    c.post.inside.phase c.in_ok-reach-in-Some.reach c.in_ok-reach-in-Some.ensures.rest
    (ap (λ (p : PostData). p.phase) c.post.view_is)
