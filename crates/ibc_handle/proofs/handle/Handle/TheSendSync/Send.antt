-- What a handle holds may go to another thread, where the value may.
use mir.Raw.{raw}
use base.Shift.{Keyless}
use denote.Memory.{lone}
use denote.RawPtr.{Ptr, block_ptr, null_ptr}
use denote.Struct.Struct.{exits_of}
use denote.Struct.Owning.{shape, fields, to}
use denote.Param.Send.{IsSend, AllSend, owning_send, struct_send, sendable}
use Rattle.std_alloc.proofs.SendSync.{quiet, lies}
use Rattle.std.proofs.Crossing.{frees}
use Rattle.std.specs.declared.option.Option.{Option}
use Rattle.std.specs.declared.option.Option.TheVariants.{None, Some}
use Rattle.ibc_handle.specs.declared.handle_value.HandleValue.{HandleValue}
use Rattle.ibc_handle.specs.contracts.handle_value.HandleValue.{the_row as R}
use Rattle.ibc_handle.proofs.Crossing.{held_send}
use Rattle.ibc_handle.specs.OwnedBoxes.{owned_box}
use Rattle.ibc_handle.specs.contracts.handle.Handle.{the_row, the_type}

owned_keyless : (p : Ptr) (x : Option HandleValue) → Keyless (owned_box R p x)
owned_keyless null_ptr None = tt
owned_keyless null_ptr (Some x) = λ _. tt
owned_keyless (block_ptr b o) None = λ _. tt
owned_keyless (block_ptr b o) (Some x) = (lies R held_send (block_ptr b o) x, frees.frees (record { memory = record { seal = tt } }) (raw (lone R.mir)) (block_ptr b o))

pub send : IsSend the_row
send =
    let all : AllSend (fields the_type) = (search sendable, tt) in
    owning_send the_type all (λ h. owned_keyless h.at h.value)
    (λ k. quiet (to the_type) (exits_of k (fields the_type)) ((struct_send (shape the_type) all).leaving k))
