use Rattle.std.proofs.Common.{◌∙◌, refl, ap, arith, w8, take, eqb, cond}
use Rattle.std.proofs.lemmas.Simd.{zip2_splat, zip2_of_maps, length-chunk, chunk-fits, below_from_Fits, first_set_mask_l}
use lib.Count.{count_trailing_zeros}
use Rattle.gr_text.specs.Tokens.{is_blank}
use Rattle.gr_text.proofs.Lanes.{blank-mask}
use Rattle.gr_text.proofs.runs.word_in_lanes.Goals as goal

pub returns : goal.returns
returns c =
    let bytes = take 16 c.args.bytes.now in
    let long = length-chunk 0 16 c.args.bytes.now c.requires in
    let small = below_from_Fits w8 bytes (chunk-fits w8 0 16 c.args.bytes.now c.type_inv.bytes) in
    c.first_set.ensures
    ∙ ap (λ m. cond (eqb m 0) 16 (count_trailing_zeros 64 m))
    (blank-mask bytes _ long small
    (zip2_of_maps _ _ _ bytes (zip2_of_maps _ _ _ bytes (zip2_of_maps _ _ _ bytes
    (zip2_splat _ bytes 16 32 long) (zip2_splat _ bytes 16 9 long))
    (zip2_splat _ bytes 16 13 long)) (zip2_splat _ bytes 16 10 long)) refl)
    ∙ first_set_mask_l is_blank bytes 16 long (omega arith)
