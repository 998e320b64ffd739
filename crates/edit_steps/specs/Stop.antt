-- Why a session stops early, and that a fault is answered for what failed.
use Rattle.std.specs.Prelude.{◌≡◌, ℕ, ◌≤◌, Result, IsErrOf}
use Rattle.osm_outside.specs.Outside.{Rose}
use Rattle.edit_steps.specs.declared.stop.Stop.{Stop}
use Rattle.edit_steps.specs.declared.stop.Stop.TheVariants as stops

-- The shelf's count of faults never falls, and it rose where the call stopped by a fault of it, and only there.
pub record ReadCause {T : Type 0} (before now : ℕ) (result : Result T Stop) : Type 0 where
  pub later : before ≤ now
  pub failed : IsErrOf result stops.ReadFault → Rose before now
  pub quiet : (IsErrOf result stops.ReadFault → ⊥) → now ≡ before
  pub apart : IsErrOf result stops.WriteFault → ⊥

-- The sink's count of faults never falls, and it rose where the call stopped by a fault of it, and only there.
pub record WriteCause {T : Type 0} (before now : ℕ) (result : Result T Stop) : Type 0 where
  pub later : before ≤ now
  pub failed : IsErrOf result stops.WriteFault → Rose before now
  pub quiet : (IsErrOf result stops.WriteFault → ⊥) → now ≡ before
  pub apart : IsErrOf result stops.ReadFault → ⊥

-- a fault is answered where its count rose, and only there
pub record StopCause {T : Type 0} (read_before read_now write_before write_now : ℕ) (result : Result T Stop) : Type 0 where
  pub read_later : read_before ≤ read_now
  pub write_later : write_before ≤ write_now
  pub read : IsErrOf result stops.ReadFault → Rose read_before read_now
  pub write : IsErrOf result stops.WriteFault → Rose write_before write_now
  pub read_quiet : (IsErrOf result stops.ReadFault → ⊥) → read_now ≡ read_before
  pub write_quiet : (IsErrOf result stops.WriteFault → ⊥) → write_now ≡ write_before
