-- What a table answers to a list of calls: what it means decides it, and nothing else.
use Rattle.std.specs.Prelude.{List, [], ◌∷◌, length, true}
use Rattle.std.specs.List.{slice_get}
use Rattle.tables.specs.declared.calls.Call.{Call}
use Rattle.tables.specs.declared.calls.Call.TheVariants.{Clear, At, Count, Places, Find, Add, SetVolume, Remove}
use Rattle.tables.specs.declared.calls.Reply.{Reply}
use Rattle.tables.specs.declared.calls.Reply.TheVariants.{Answered, Counted, Found}
use Rattle.tables.specs.Meaning.{Contents, listed, cleared, lookup, held, takes, sets_volume, said, added, volume_set, removed}

abbrev pub reply : Contents → Call → Reply
reply t Clear = Answered (said true)
reply t (At d i) = Found (slice_get (listed d t) i)
reply t (Count d) = Counted (length (listed d t))
reply t Places = Counted t.capacity.places
reply t (Find n) = Found (lookup n t.book)
reply t (Add o) = Answered (said (takes t o))
reply t (SetVolume n v) = Answered (said (sets_volume n v t))
reply t (Remove n) = Answered (said (held n t.book))

-- what the table means after a call
abbrev pub after : Contents → Call → Contents
after t Clear = cleared t
after t (At d i) = t
after t (Count d) = t
after t Places = t
after t (Find n) = t
after t (Add o) = added o t
after t (SetVolume n v) = volume_set n v t
after t (Remove n) = removed n t

-- call after call
abbrev pub replies : Contents → List Call → List Reply
replies t [] = []
replies t (call ∷ calls) = reply t call ∷ replies (after t call) calls

abbrev pub all_after : Contents → List Call → Contents
all_after t [] = t
all_after t (call ∷ calls) = all_after (after t call) calls
