use Rattle.std.proofs.Common.{slice_index, bit_and, bit_xor, map, ap, ap₂, ◌∙◌}
use Rattle.std.proofs.lemmas.List.{length-map}
use Rattle.std.specs.Int.{w32, bit_not}
use Rattle.std.specs.Simd.Lanes.{zip2}
use Rattle.ibc_lanes.proofs.Vectors.{mapped, zipped, length-zipped}
use Rattle.ibc_lanes.proofs.words.choices.Goals as goal

pub returns : goal.returns
returns c j lt =
    let x = c.args.x in
    let y = c.args.y in
    let z = c.args.z in
    let rest = map (bit_not w32) x in
    let lr = length-map x (bit_not w32) ∙ c.fits-x.0 in
    zipped bit_xor (zip2 bit_and x y) (zip2 bit_and rest z) (length-zipped bit_and x y c.fits-x.0 c.fits-y.0) (length-zipped bit_and rest z lr c.fits-z.0) j lt
    ∙ ap₂ bit_xor (zipped bit_and x y c.fits-x.0 c.fits-y.0 j lt)
    (zipped bit_and rest z lr c.fits-z.0 j lt ∙ ap (λ n. bit_and n (slice_index z j)) (mapped (bit_not w32) x c.fits-x.0 j lt))
