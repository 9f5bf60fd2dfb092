-- Condition 1 of all seventeen exported functions.
use Rattle.promises.specs.Condition1.{Condition1}
use Rattle.promises.proofs.EndsSession.{ends_make_session, ends_make_session_words, ends_compile, ends_compile_names}
use Rattle.promises.proofs.EndsImage.{ends_list_image, ends_count_frames, ends_frame, ends_frame_refusal, ends_to_chin, ends_from_chin, ends_load_tree, ends_check_heights, ends_propose_heights}
use Rattle.promises.proofs.EndsRun.{ends_run}
use Rattle.promises.proofs.EndsShape.{ends_write_shape}
use Rattle.promises.proofs.EndsText.{ends_read_text, ends_next_token}

pub every_call_ends : Condition1
every_call_ends =
    record {
      make_session = λ k. ends_make_session k;
      make_session_words = λ a k. ends_make_session_words a k;
      compile = λ a k. ends_compile a k;
      compile_names = λ a k. ends_compile_names a k;
      list_image = λ k. ends_list_image k;
      count_frames = λ k. ends_count_frames k;
      frame = λ k. ends_frame k;
      frame_refusal = λ k. ends_frame_refusal k;
      to_chin = λ a k. ends_to_chin a k;
      from_chin = λ a k. ends_from_chin a k;
      load_tree = λ k. ends_load_tree k;
      check_heights = λ a k. ends_check_heights a k;
      propose_heights = λ k. ends_propose_heights k;
      run = λ a k. ends_run a k;
      read_text = λ k. ends_read_text k;
      next_token = λ k. ends_next_token k;
      write_shape = λ k. ends_write_shape k;
    }
