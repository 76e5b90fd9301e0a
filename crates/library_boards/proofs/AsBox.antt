-- A handle owns what a box at the same value owns.
use Rattle.std.proofs.Common.{◌≡◌, [], refl, sym, true≢false}
use Rattle.std.specs.Prelude.{IsSome, Option, Some, None}
use mir.Syntax.{impl, tnil, dnil}
use denote.Signature.{Slot, plain}
use Rattle.std_alloc.proofs.BoxSteps.Form.{Bx}
use Rattle.std.specs.contracts.alloc.Global as heap
use Rattle.std.proofs.alloc.Global.TheLaws as heap_laws
use Rattle.std.specs.contracts.impls.GlobalAllocator.TheImpl.{ghosts, dict}
use Rattle.library_boards.specs.contracts.member.Member as member
use Rattle.library_boards.proofs.member.Member.TheLaws as member_laws
use Rattle.library_boards.specs.contracts.loose.Loose as loose
use Rattle.library_boards.specs.contracts.handle.Handle as handle

abbrev pub E : Bx
E = record {
  row = member.the_row;
  laws = member_laws.the_row_laws;
  al = record {
    row = heap.the_row;
    laws = heap_laws.the_row_laws;
    g = ghosts;
    d = dict;
    drops = impl [] tnil dnil;
  };
}

abbrev pub OfLoose : Slot 0
OfLoose = plain (λ _. loose.the_row member.the_row heap.the_row ghosts)

abbrev pub OfHandle : Slot 0
OfHandle = plain (λ _. handle.the_row)

-- what is there, where something is
pub some_of : {X : Type 0} → (o : Option X) → IsSome o → (x : X) × (o ≡ Some x)
some_of (Some x) is = (x, refl)
some_of None is = absurd (true≢false (sym is))

abbrev pub OfGlobal : Slot 0
OfGlobal = plain (λ _. heap.the_row)
