-- The entry that a controller posts for a command: Base Specification, "Common Completion Queue Entry
-- Layout" and "Status Field". All numbers are little endian.
use Rattle.std.specs.Prelude.{ℕ, ◌+◌, ◌*◌, ◌^◌, List, ◌++◌, replicate}
use Rattle.byteorder.specs.Endian.{little_bytes}
use Rattle.nvm_record.specs.declared.completion.Completion.{Completion}

-- Command identifier in bits 15:0, phase tag 0 in bit 16, status code in bits 24:17, status code type in
-- bits 27:25; what is above is 0.
abbrev pub dword_3 : Completion → ℕ
dword_3 c = c.cid + c.status.sc * 2 ^ 17 + c.status.sct * 2 ^ 25

-- Dwords 0 and 1 and the SQ head pointer are 0; then come the SQ identifier, which is the host's number,
-- and dword 3.
abbrev pub posted : Completion → List ℕ
posted c = replicate 10 0 ++ (little_bytes 2 c.host ++ little_bytes 4 (dword_3 c))
