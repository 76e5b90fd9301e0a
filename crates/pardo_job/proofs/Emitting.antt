-- Code after code, as functions put it.
use Rattle.std.proofs.Common.{◌≡◌, Bool, true, false, ◌&&◌, List, [], ◌++◌, Result, Ok, Err, refl}
use Rattle.std.proofs.Common.{sym, ap, ◌∙◌, append_assoc, append-nil}
use Rattle.std.proofs.lemmas.List.Folds.{list_all-append}
use Rattle.pram_job.specs.declared.instr.Instr.{Instr}
use Rattle.pardo_job.specs.declared.fault.JobKind.{JobKind}
use Rattle.pardo_job.specs.declared.fault.JobKind.TheVariants.{TooDeep, TooLong, Endless, Memory}
use Rattle.pardo_job.specs.declared.fault.JobKind.TheVariants.{TooManyCells}
use Rattle.pardo_job.specs.Inner.Emitting.{PutsCode, IsCodeFault}
use Rattle.pardo_job.specs.Operations.{is_shallow, target_of}
use Rattle.std.proofs.Common.{nat_lt}

pub shallow_both : (front back : List Instr) → is_shallow (front ++ back) ≡
    (is_shallow front && is_shallow back)
shallow_both front back = list_all-append (λ one. nat_lt (target_of one) 3) front back

pub fault_front : (front back : List Instr) (kind : JobKind) → IsCodeFault front kind →
    IsCodeFault (front ++ back) kind
fault_front front back TooDeep e = shallow_both front back ∙ ap (λ t. t && is_shallow back) e
fault_front front back TooLong e = e
fault_front front back Endless e = e
fault_front front back TooManyCells e = e
fault_front front back Memory e = e

and_false : (b c : Bool) → b ≡ true → c ≡ false → (b && c) ≡ false
and_false b c e f = ap (λ t. t && c) e ∙ f

pub fault_back : (front back : List Instr) (kind : JobKind) → is_shallow front ≡ true →
    IsCodeFault back kind → IsCodeFault (front ++ back) kind
fault_back front back TooDeep s e = shallow_both front back ∙
    and_false (is_shallow front) (is_shallow back) s e
fault_back front back TooLong s e = e
fault_back front back Endless s e = e
fault_back front back TooManyCells s e = e
fault_back front back Memory s e = e

pub puts_then : {A B : Type 0} (old mid new front back : List Instr) (x : A)
    (r : Result B JobKind) →
    PutsCode old mid (Ok x) front → PutsCode mid new r back → PutsCode old new r (front ++ back)
puts_then old mid new front back x (Ok y) p q = record {
  all = q.all ∙ ap (λ l. l ++ back) p.all ∙ append_assoc old front back;
  shallow = shallow_both front back ∙ ap (λ t. t && is_shallow back) p.shallow ∙ q.shallow;
  fault = q.fault;
}
puts_then old mid new front back x (Err k) p q = record {
  all = q.all;
  shallow = q.shallow;
  fault = fault_back front back k p.shallow q.fault;
}

pub puts_fails : {A B : Type 0} (old mid front back : List Instr) (k : JobKind) →
    PutsCode {A = A} old mid (Err k) front → PutsCode {A = B} old mid (Err k) (front ++ back)
puts_fails old mid front back k p = record {
  all = p.all;
  shallow = p.shallow;
  fault = fault_front front back k p.fault;
}

pub puts_none : {A : Type 0} (old : List Instr) (x : A) → PutsCode old old (Ok x) []
puts_none old x = record { all = sym (append-nil old); shallow = refl; fault = tt }
