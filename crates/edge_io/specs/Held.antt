-- files and outputs in memory
use Rattle.std.specs.Prelude.{ℕ, ◌≡◌, ◌≤◌, ◌-◌, List, [], ◌∷◌, length, vec_len, drop, ◌+◌, Option, None, IsSome, IsSomeAnd, option_map, option_and_then, find, position}
use Rattle.std.specs.Prelude.{slice_get, Vec}
use Rattle.lists.specs.Words.{Global, bytes_eq}
use Rattle.edge_io.specs.FailureCounts.{one_more}
use Rattle.edge_io.specs.declared.memory_files.MemFiles.{MemFiles}
use Rattle.edge_io.specs.declared.memory_sink.MemSink.{MemSink}

-- a file: its name and its bytes
abbrev pub HeldFile : Type 0
HeldFile = List ℕ × Vec ℕ Global

-- the bytes of the first file with this name
abbrev pub contents_of : List HeldFile → List ℕ → Option (List ℕ)
contents_of files name = option_map (λ file. file.1.items) (find (λ file. bytes_eq file.0 name) files)

-- Below, a place is a file's number, counted from 0, and how many of its bytes were read.

-- the place where the first file with this name begins
abbrev pub beginning_of : List HeldFile → List ℕ → Option (ℕ × ℕ)
beginning_of files name = option_map (λ number. (number, 0)) (position (λ file. bytes_eq file.0 name) files)

-- the place so many bytes further on
abbrev pub place_after : Option (ℕ × ℕ) → ℕ → Option (ℕ × ℕ)
place_after place count = option_map (λ p. (p.0, p.1 + count)) place

-- what is unread at a place
abbrev pub rest_at : List HeldFile → Option (ℕ × ℕ) → Option (List ℕ)
rest_at files place = option_and_then (λ p. option_map (λ file. drop p.1 file.1.items) (slice_get files p.0)) place

-- the place is in a file, and no more of it was read than there is
abbrev pub IsPlaced : List HeldFile → Option (ℕ × ℕ) → Type 0
IsPlaced files place = IsSomeAnd place (λ p. IsSomeAnd (slice_get files p.0) (λ file. p.1 ≤ length file.1.items))

-- what is unread of the started file
abbrev pub unread_of : MemFiles → Option (List ℕ)
unread_of source = rest_at source.files.items source.place

-- a file is started
abbrev pub IsStarted : MemFiles → Type 0
IsStarted source = IsPlaced source.files.items source.place

-- the source after a call that was answered: the call is counted, and the reading stands at this place
abbrev pub moved_to : MemFiles → Option (ℕ × ℕ) → MemFiles
moved_to source place = record source { calls = one_more source.calls; place = place }

-- the source after a call that failed: the call and the failure are counted, and no file is started
abbrev pub after_failure : MemFiles → MemFiles
after_failure source = record source { calls = one_more source.calls; faults = one_more source.faults; place = None }

-- no call of the source is to fail
abbrev pub IsSteady : MemFiles → Type 0
IsSteady source = source.fails.items ≡ []

-- no call is to fail, and there is a file with this name
abbrev pub IsSureOf : MemFiles → List ℕ → Type 0
IsSureOf source name = IsSteady source × IsSome (contents_of source.files.items name)

-- how many bytes a sink takes whatever happens, where these calls are to fail and so much room is left: all of the room where
-- none is to fail, and else nothing
abbrev pub sure_of : List ℕ → ℕ → ℕ
sure_of [] left = left
sure_of (_ ∷ _) left = 0

-- how many the sink takes
abbrev pub sure_room : MemSink → ℕ
sure_room sink = sure_of sink.fails.items (sink.room - vec_len sink.written)
