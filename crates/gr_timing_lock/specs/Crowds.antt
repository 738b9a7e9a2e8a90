-- guests at one lock
use Rattle.std.specs.Prelude.{◌≡◌}
use Rattle.gr_turn.specs.Seats.{TableId}
use Rattle.gr_timing_lock.specs.declared.guests.Guest.{Guest}

-- the guest's seat is one of this lock
abbrev pub IsAt : TableId → Guest → Type 0
IsAt lock guest = guest.seat.lock ≡ lock

-- and none of its turns has made an entry
abbrev pub IsFresh : TableId → Guest → Type 0
IsFresh lock guest = IsAt lock guest × (guest.made ≡ 0)
