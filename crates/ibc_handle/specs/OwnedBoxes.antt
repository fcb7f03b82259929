-- What a handle owns.
use mir.Syntax.{Ty}
use base.Fml.{Fml, ftrue, fex}
use denote.RattleType.{RattleType}
use denote.RawPtr.{Ptr, block_ptr, null_ptr}
use Rattle.std.specs.declared.option.Option.{Option}
use Rattle.std.specs.declared.option.Option.TheVariants.{None, Some}
use Rattle.std_alloc.specs.Box.Ownership.{box_owns}
use Rattle.std_heap.specs.contracts.GlobalAllocator.TheImpl.{ghosts}

-- a block that the heap gave and takes back
abbrev pub heap_block : Ty → Ptr → Fml
heap_block = ghosts.dealloc_token (record { memory = record { seal = tt } })

-- at null nothing, and else what a box of the heap owns that has the value
abbrev pub owned_box : (R : RattleType) → Ptr → Option R.Denot → Fml
owned_box R null_ptr None = ftrue
owned_box R null_ptr (Some x) = fex ⊥ (λ _. ftrue)
owned_box R (block_ptr b o) None = fex ⊥ (λ _. ftrue)
owned_box R (block_ptr b o) (Some x) = box_owns heap_block R (block_ptr b o) x
